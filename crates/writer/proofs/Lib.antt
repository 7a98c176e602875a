pub mod FormsLaws
pub mod MeasureLaws
pub mod PutLaws
pub mod WriteLaws
