-- What the functions of `record_words` ask of their callers; no demand rests on it. Definitions only.
pub mod Readable
