pub mod StateLaws
pub mod StoredLaws
pub mod StateSetLaws
pub mod PairSetLaws
