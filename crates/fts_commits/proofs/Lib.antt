mod Ascending
mod WorkedRows
mod WorkedTurns
mod Turns
mod Leads
