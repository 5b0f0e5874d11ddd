pub mod ByteLemmas
pub mod ChosenLemmas
pub mod CopyLemmas
pub mod BeforeLemmas
mod Examples
pub mod LossLemmas
pub mod MomentLemmas
pub mod NameLemmas
pub mod PartLemmas
pub mod SeenLemmas
pub mod SinkLemmas
pub mod SourceLemmas
pub mod TreeLemmas
