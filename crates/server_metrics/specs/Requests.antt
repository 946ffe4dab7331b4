-- What a request asks for.
use Rattle.std.specs.Prelude.{◌≡◌, ◌≢◌, ◌==◌, ℕ, Bool, true, false, List, codes}
use Rattle.std.specs.List.{before_first}
use Rattle.httparse.specs.Grammar.{HasNoRequest, MayBecomeRequest, ReadsRequest, RequestHead}
use Rattle.httparse.specs.Spans.{RequestOverflows}
use Rattle.server_metrics.specs.declared.request.Asked.{Asked}
use Rattle.server_metrics.specs.declared.request.Asked.TheVariants.{More, Bad, Metrics, Health, NotFound, Method}
use Rattle.server_metrics.specs.declared.asking.TheConstants.{HEADERS_MAX}

-- the path of a target: what stands before its first question mark (63)
abbrev pub path_of : List ℕ → List ℕ
path_of target = before_first (λ octet. octet == 63) target

-- the method whose answer has a body, or has none
abbrev pub method_text : Bool → List ℕ
method_text true = codes "GET"
method_text false = codes "HEAD"

-- a method and a target ask for it
abbrev pub AsksFor : List ℕ → List ℕ → Asked → Type 0
AsksFor method target More = ⊥
AsksFor method target Bad = ⊥
AsksFor method target (Metrics body) = (method ≡ method_text body) × (path_of target ≡ codes "/metrics")
AsksFor method target (Health body) = (method ≡ method_text body) × (path_of target ≡ codes "/health")
AsksFor method target (NotFound body) =
    (method ≡ method_text body) × (path_of target ≢ codes "/metrics") × (path_of target ≢ codes "/health")
AsksFor method target Method = (method ≢ codes "GET") × (method ≢ codes "HEAD")

-- the octets begin with a head whose method and target ask for it
abbrev pub BeginsWithHead : List ℕ → Asked → Type 0
BeginsWithHead octets asked =
    (h : RequestHead) × (rest : List ℕ) × ReadsRequest octets h rest × AsksFor h.method h.target asked

-- What the octets ask for. More are wanted only where they begin with no head, and some that follow can make one; and they are bad only
-- where none that follow can make a head of so few fields. Else it is what the head asks for that they begin with.
abbrev pub IsAnswerTo : List ℕ → Asked → Type 0
IsAnswerTo octets More = HasNoRequest octets × MayBecomeRequest octets
IsAnswerTo octets Bad = RequestOverflows HEADERS_MAX octets
IsAnswerTo octets (Metrics body) = BeginsWithHead octets (Metrics body)
IsAnswerTo octets (Health body) = BeginsWithHead octets (Health body)
IsAnswerTo octets (NotFound body) = BeginsWithHead octets (NotFound body)
IsAnswerTo octets Method = BeginsWithHead octets Method
