-- Families of samples: a line of what a family is of, a line of what its samples are, and the samples.
use Rattle.std.specs.Prelude.{ℕ, List, ◌++◌, codes}
use Rattle.server_metrics.specs.Texts.{number_line}
use Rattle.server_metrics.specs.declared.family.Kind.{Kind}
use Rattle.server_metrics.specs.declared.family.Kind.TheVariants.{Counter, Gauge, Histogram}

abbrev pub kind_text : Kind → List ℕ
kind_text Counter = codes "counter"
kind_text Gauge = codes "gauge"
kind_text Histogram = codes "histogram"

-- the two lines
unfoldable pub help_line : List ℕ → List ℕ → List ℕ
help_line name help = codes "# HELP " ++ (name ++ (codes " " ++ (help ++ codes "\n")))

unfoldable pub type_line : List ℕ → Kind → List ℕ
type_line name kind = codes "# TYPE " ++ (name ++ (codes " " ++ (kind_text kind ++ codes "\n")))

unfoldable pub head_text : List ℕ → List ℕ → Kind → List ℕ
head_text name help kind = help_line name help ++ type_line name kind

-- a family of one sample without labels
unfoldable pub single_text : List ℕ → List ℕ → Kind → ℕ → List ℕ
single_text name help kind value = head_text name help kind ++ (name ++ number_line value)
