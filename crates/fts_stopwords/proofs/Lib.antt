mod Listed
mod Numbers
