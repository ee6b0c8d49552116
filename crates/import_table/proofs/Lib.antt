mod CallFacts
mod CallWords
mod Counting
mod NumberedRows
mod TableFacts
