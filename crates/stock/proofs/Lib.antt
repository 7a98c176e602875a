pub mod StockLaws
pub mod FilledLaws
