pub mod RangeSum
