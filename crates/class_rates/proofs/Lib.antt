pub mod CapSame
mod CapSteps
pub mod ClassLaw
pub mod ClassOrders
mod ClassRows
mod FoldSteps
mod PairLists
mod Parts
