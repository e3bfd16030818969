-- The laws by which the functions are proved, by topic.
mod ExpressionLaws
mod SimpleLaws
