mod Examples
pub mod ReaderLemmas
pub mod WriterLemmas
