-- What is spliced into a specification leaves a value where its kind says so. The definitions stand with the lowering.
pub use Rattle.tick_lower_spec.specs.Captured.{leaves, HaveAnswers, HaveAnswersAt, HasAnswers, AllHaveAnswers}
