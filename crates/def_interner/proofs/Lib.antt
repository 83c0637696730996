mod InternLemmas
mod MacroKindsFacts
mod NumberingLemmas
mod SessionFacts
mod SessionLemmas
mod TableLemmas
