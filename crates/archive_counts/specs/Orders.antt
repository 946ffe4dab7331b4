-- The order that options ask for.
use Rattle.std.specs.Prelude.{List, [], ◌∷◌}
use Rattle.archive_counts.specs.declared.key.CountKey.{CountKey}
use Rattle.archive_counts.specs.declared.key.CountKey.TheVariants.{Host, App, Proc, Msgid, Facility, Severity, Day, Hour}
use Rattle.archive_counts.specs.declared.key.CountKey.TheVariants.{Minute}
use Rattle.archive_counts.specs.declared.options.CountForm.{CountForm}
use Rattle.archive_counts.specs.declared.options.CountForm.TheVariants.{Lines, Json, Bars}
use Rattle.archive_counts.specs.declared.options.CountOptions.{CountOptions}
use Rattle.archive_counts.specs.declared.order.LineOrder.{LineOrder}
use Rattle.archive_counts.specs.declared.order.LineOrder.TheVariants.{MostFirst, ByWords}

-- bars of one key stand in the order of time where it is a period
abbrev pub order_of_bars : CountKey → LineOrder
order_of_bars Host = MostFirst
order_of_bars App = MostFirst
order_of_bars Proc = MostFirst
order_of_bars Msgid = MostFirst
order_of_bars Facility = MostFirst
order_of_bars Severity = MostFirst
order_of_bars Day = ByWords
order_of_bars Hour = ByWords
order_of_bars Minute = ByWords

abbrev pub order_for : CountForm → List CountKey → LineOrder
order_for Lines keys = MostFirst
order_for Json keys = MostFirst
order_for (Bars columns) [] = MostFirst
order_for (Bars columns) (key ∷ []) = order_of_bars key
order_for (Bars columns) (key ∷ next ∷ keys) = MostFirst

abbrev pub order_of : CountOptions → LineOrder
order_of options = order_for options.form options.keys.items
