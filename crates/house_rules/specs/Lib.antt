-- Laws of the house book's rules in the form in which the code follows them; the definitions are those of `house`.
pub mod RulesLaws
