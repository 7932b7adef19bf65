mod Lines
mod WorkedRows
