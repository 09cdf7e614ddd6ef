pub mod HoleLaws
pub mod PlanLaws
pub mod LowestLaws
pub mod ServeLaws
pub mod ApartLaws
pub mod PlannedLaws
