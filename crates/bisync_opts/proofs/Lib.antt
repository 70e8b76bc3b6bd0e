mod CommandLemmas
mod TextLemmas
mod PathLemmas
mod Steps
mod FieldLemmas
mod WordLemmas
mod DurationLemmas
