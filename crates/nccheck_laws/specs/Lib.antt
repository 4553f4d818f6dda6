pub mod LayoutLaws
pub mod HeaderLaws
pub mod Agreement
pub mod Written
pub mod FaultLaws
pub mod ReportLaws
pub mod ErrorLaws
pub mod OneReport
