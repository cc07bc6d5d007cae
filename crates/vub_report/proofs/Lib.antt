pub mod HistoryLemmas
pub mod RecordTextLemmas
