pub mod LaneRule
