pub mod Byte
pub mod Word
pub mod Run
pub mod RawWords
pub mod Order
pub mod Stopwords
pub mod Indexed
