-- The order of elements.
use Rattle.std.specs.Prelude.{List, ⊤}
use Rattle.syslog_value.specs.Parts.{ElementParts, IsById}
use Rattle.syslog_grammar.specs.declared.canonical_form.ElementOrder.{ElementOrder}
use Rattle.syslog_grammar.specs.declared.canonical_form.ElementOrder.TheVariants.{ById, AsGiven}

-- by id, or any order
abbrev pub IsInOrder : ElementOrder → List ElementParts → Type 0
IsInOrder ById es = IsById es
IsInOrder AsGiven es = ⊤
