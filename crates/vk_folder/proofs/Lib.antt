pub mod FolderLaws
pub mod FolderLemmas
pub mod MemberLemmas
pub mod PathLemmas
pub mod PieceLemmas
pub mod ReadLemmas
pub mod TextLemmas
pub mod WalkedLemmas
