mod Endings
mod Lifts
