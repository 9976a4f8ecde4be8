pub mod SpanLemmas
pub mod RectLemmas
pub mod SplitLemmas
pub mod PieceLemmas
pub mod CountLemmas
pub mod ScreenLemmas
