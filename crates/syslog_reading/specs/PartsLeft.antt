-- What the iterators over elements and parameters give.
use Rattle.std.specs.Prelude.{◌≡◌, ℕ, List, Option, Some, None}
use Rattle.octet_language.specs.Language.{AnyOf, NoPrefix}
use Rattle.octet_language.specs.Reading.{Follows}
use Rattle.syslog_fields.specs.Spans.{SpannedElement, SpannedParam}
use Rattle.syslog_reading.specs.Views.{element_span, param_span}
use Rattle.syslog_reading.specs.declared.element.ElementView.{ElementView}
use Rattle.syslog_reading.specs.declared.element.ParamView.{ParamView}
use Rattle.syslog_reading.specs.declared.parts.Elements.{Elements}
use Rattle.syslog_reading.specs.declared.parts.Params.{Params}

-- the text of the elements that are still to come
abbrev pub elements_left : Elements → List ℕ
elements_left s = s.rest.now

-- the text of the parameters that are still to come
abbrev pub params_left : Params → List ℕ
params_left s = s.rest.now

-- the first element is given, or no element comes first
abbrev pub GivesElement : Elements → Option ElementView → Elements → Type 0
GivesElement old None new = NoPrefix (AnyOf SpannedElement) (elements_left old) × (new ≡ old)
GivesElement old (Some v) new = Follows (SpannedElement (element_span v)) (elements_left old) (elements_left new)

-- the first parameter is given, or no parameter comes first
abbrev pub GivesParam : Params → Option ParamView → Params → Type 0
GivesParam old None new = NoPrefix (AnyOf SpannedParam) (params_left old) × (new ≡ old)
GivesParam old (Some v) new = Follows (SpannedParam (param_span v)) (params_left old) (params_left new)
