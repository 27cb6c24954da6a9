mod CutLemmas
mod Examples
mod Objects
mod RowLemmas
mod TreeLemmas
