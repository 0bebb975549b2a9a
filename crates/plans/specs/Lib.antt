pub mod PlanReport
pub mod ServedReport
pub mod Totals
pub mod NoPrices
pub mod Weighed
