pub mod StepLaws
pub mod PointLaws
pub mod PutLaws
pub mod BesideLaws
