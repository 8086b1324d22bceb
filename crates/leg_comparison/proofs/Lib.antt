pub mod LegRows
