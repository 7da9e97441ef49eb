-- No second result of the calls of this crate, each of which promises that its answer is one value; and the zeros at the left end of a word.
pub mod Unique
pub mod ZeroLaws
