-- Parameters and elements: where they end and stop.
use Rattle.std.proofs.Common.{◌≡◌, ℕ, List, [], ◌∷◌, ◌++◌, refl, sym, ap, subst, ◌∙◌, arith, inl, inr}
use Rattle.std.specs.List.{flat_map}
use Rattle.std.specs.Prelude.{Result}
use Rattle.octet_language.specs.Language.{Language, Only, ◌⋅◌, AnyOf, Each, IsPrefixFree, IfFirst}
use Rattle.octet_language.specs.Reading.{Fails, Follows, Reads}
use Rattle.octet_language.proofs.Lists.{heads}
use Rattle.octet_language.proofs.Sequence.{IsPrefixFree-then}
use Rattle.octet_language.proofs.Chain.{Fails-first, Fails-later, Fails-same, Fails-second_value, Follows-then}
use Rattle.octet_language.proofs.Chain.{IsPrefixFree-only, IsPrefixFree-same, Reads-later}
use Rattle.octet_language.proofs.Many.{Many, many_cases, IsPrefixFree-many}
use Rattle.syslog_value.specs.Parts.{IsNameOctet}
use Rattle.syslog_fields.specs.Grammar.{Name, Param, Element}
use Rattle.syslog_fields.specs.Spans.{Text, StopsInRun, ParamSpan, SpannedValue, SpannedParam, ElementSpan}
use Rattle.syslog_fields.specs.Spans.{SpannedElement}
use Rattle.syslog_fields.specs.Values.{Piece}
use Rattle.syslog_fields.proofs.Ahead.{StartsIn, Fails-ahead, IsPrefixFree-ahead}
use Rattle.syslog_fields.proofs.Names.{EndsName, OneAhead-name, Fails-name, letter}
use Rattle.syslog_fields.proofs.Values.{IsPrefixFree-value}

-- ---- a delimiter, a name and what follows it

abbrev pub Named : ℕ → Language → Language
Named m B = Only (m ∷ []) ⋅ (AnyOf Name ⋅ B)

pub bad_octet : (m : ℕ) (B : Language) (b t : List ℕ) (remaining : ℕ) → B t → Fails (Only (m ∷ [])) b remaining
    → Fails (Named m B) b remaining
bad_octet m B b t remaining some f = Fails-first (Only (m ∷ [])) (AnyOf Name ⋅ B) b (97 ∷ t) remaining
    (97 ∷ [], t, refl, letter, some) f

pub bad_name : (m : ℕ) (B : Language) (b rest t : List ℕ) (remaining : ℕ) → B t → IsPrefixFree B → StartsIn EndsName B
    → Follows (Only (m ∷ [])) b rest → StopsInRun IsNameOctet 32 rest remaining → Fails (Named m B) b remaining
bad_name m B b rest t remaining some one starts f g =
    Fails-later (Only (m ∷ [])) (AnyOf Name ⋅ B) b rest remaining (IsPrefixFree-only (m ∷ [])) f
    (Fails-name B rest t remaining some one starts g)

pub bad_behind : (m : ℕ) (B : Language) (b rest after n : List ℕ) (remaining : ℕ) → StartsIn EndsName B
    → Follows (Only (m ∷ [])) b rest → Follows (Name n) rest after × IfFirst EndsName after → Fails B after remaining
    → Fails (Named m B) b remaining
bad_behind m B b rest after n remaining starts f g h =
    Fails-later (Only (m ∷ [])) (AnyOf Name ⋅ B) b rest remaining (IsPrefixFree-only (m ∷ [])) f
    (Fails-ahead (AnyOf Name) B EndsName rest after remaining OneAhead-name starts (g.0.0, g.0.1, (n, g.0.2)) g.1 h)

IsPrefixFree-named : (m : ℕ) (B : Language) → IsPrefixFree B → StartsIn EndsName B → IsPrefixFree (Named m B)
IsPrefixFree-named m B one starts = IsPrefixFree-then (Only (m ∷ [])) (AnyOf Name ⋅ B) (IsPrefixFree-only (m ∷ []))
    (IsPrefixFree-ahead (AnyOf Name) B EndsName OneAhead-name starts one)

named_some : (m : ℕ) (B : Language) → ¬ (Named m B [])
named_some m B (x, y, e, h, k) = let f : [] ≡ m ∷ y = e ∙ ap (λ (u : List ℕ). u ++ y) h in absurd cc

-- ---- ="VALUE"

abbrev pub Quoted : List ℕ → Language
Quoted raw = Only (34 ∷ []) ⋅ Text (AnyOf (Each Piece)) raw ⋅ Only (34 ∷ [])

abbrev pub Parsed : List ℕ → Language
Parsed raw = Text (AnyOf (Each Piece)) raw ⋅ Only (34 ∷ [])

empty_spelling : AnyOf Parsed (34 ∷ [])
empty_spelling = ([], ([], 34 ∷ [], refl, (([], refl), refl), refl))

empty_quoted : AnyOf Quoted (34 ∷ 34 ∷ [])
empty_quoted = ([], (34 ∷ [], 34 ∷ [], refl, refl, ([], 34 ∷ [], refl, (([], refl), refl), refl)))

pub empty_value : AnyOf SpannedValue (61 ∷ 34 ∷ 34 ∷ [])
empty_value = (
  [],
  (
    61 ∷ [],
    34 ∷ 34 ∷ [],
    refl,
    refl,
    (34 ∷ [], 34 ∷ [], refl, refl, ([], 34 ∷ [], refl, (([], refl), refl), refl)),
  ),
)

pub no_equals : (b : List ℕ) (remaining : ℕ) → Fails (Only (61 ∷ [])) b remaining
    → Fails (AnyOf SpannedValue) b remaining
no_equals b remaining f = Fails-second_value (Only (61 ∷ [])) Quoted b remaining
    (Fails-first (Only (61 ∷ [])) (AnyOf Quoted) b (34 ∷ 34 ∷ []) remaining empty_quoted f)

pub no_quote : (b rest : List ℕ) (remaining : ℕ) → Follows (Only (61 ∷ [])) b rest
    → Fails (Only (34 ∷ [])) rest remaining → Fails (AnyOf SpannedValue) b remaining
no_quote b rest remaining g f =
    Fails-second_value (Only (61 ∷ [])) Quoted b remaining
    (Fails-later (Only (61 ∷ [])) (AnyOf Quoted) b rest remaining (IsPrefixFree-only (61 ∷ [])) g
    (Fails-second_value (Only (34 ∷ [])) Parsed rest remaining
    (Fails-first (Only (34 ∷ [])) (AnyOf Parsed) rest (34 ∷ []) remaining empty_spelling f)))

-- the delimiters, and what a reader of the spelling answers after them
pub behind_marks : {X E : Type 0} (at : E → ℕ) (view : X → List ℕ × List ℕ) (b rest after : List ℕ) (r : Result X E)
    → Follows (Only (61 ∷ [])) b rest → Follows (Only (34 ∷ [])) rest after → Reads at Parsed view after r
    → Reads at SpannedValue view b r
behind_marks at view b rest after r f g h =
    Reads-later at (Only (61 ∷ [])) Quoted view b rest r (IsPrefixFree-only (61 ∷ [])) f
    (Reads-later at (Only (34 ∷ [])) Parsed view rest after r (IsPrefixFree-only (34 ∷ [])) g h)

pub IsPrefixFree-spanned_value : IsPrefixFree (AnyOf SpannedValue)
IsPrefixFree-spanned_value =
    IsPrefixFree-same (Only (61 ∷ []) ⋅ (Only (34 ∷ []) ⋅ Many Piece (Only (34 ∷ [])))) (AnyOf SpannedValue)
    (λ s (raw, (x, y, e, h, (z, w, f, k, (u, v, g, (l, i), m)))).
    (x, y, e, h, (z, w, f, k, (u, v, g, subst (AnyOf (Each Piece)) (sym i) l, m))))
    (IsPrefixFree-then (Only (61 ∷ [])) (Only (34 ∷ []) ⋅ Many Piece (Only (34 ∷ []))) (IsPrefixFree-only (61 ∷ []))
    (IsPrefixFree-then (Only (34 ∷ [])) (Many Piece (Only (34 ∷ []))) (IsPrefixFree-only (34 ∷ []))
    IsPrefixFree-value))

pub value_starts : StartsIn EndsName (AnyOf SpannedValue)
value_starts s (raw, (x, y, e, h, k)) = (61, y, e ∙ ap (λ (u : List ℕ). u ++ y) h, λ n. n.1 refl)

-- ---- a parameter

pub as_param : (b : List ℕ) (remaining : ℕ) → Fails (Named 32 (AnyOf SpannedValue)) b remaining
    → Fails (AnyOf SpannedParam) b remaining
as_param b remaining f =
    Fails-same (Named 32 (AnyOf SpannedValue)) (AnyOf SpannedParam) b remaining
    (λ s (x, y, e, h, (z, w, g, (n, k), (raw, l))). (record { name = n; raw = raw }, (x, y, e, h, (z, w, g, k, l))))
    (λ s (v, (x, y, e, h, (z, w, g, k, l))). (x, y, e, h, (z, w, g, (v.name, k), (v.raw, l))))
    f

pub whole_param : (b rest after end : List ℕ) (v : ParamSpan) → Follows (Only (32 ∷ [])) b rest
    → Follows (Name v.name) rest after → Follows (SpannedValue v.raw) after end → Follows (SpannedParam v) b end
whole_param b rest after end v f g h = Follows-then (Only (32 ∷ [])) (Name v.name ⋅ SpannedValue v.raw) b rest end f
    (Follows-then (Name v.name) (SpannedValue v.raw) rest after end g h)

-- the parameters that a name and a spelling stand for
pub param_spanned : (s : List ℕ) → AnyOf Param s → AnyOf SpannedParam s
param_spanned s (p, (x, y, e, h, (z, w, g, k, (u, v, f, l, (q, r, i, (ms, m, j), n))))) = (
  record { name = p.name; raw = q },
  (
    x,
    y,
    e,
    h,
    (
      z,
      w,
      g,
      k,
      (
        61 ∷ [],
        34 ∷ v,
        f ∙ ap (λ (t : List ℕ). t ++ v) l,
        refl,
        (34 ∷ [], v, refl, refl, (q, r, i, ((ms, j), refl), n)),
      ),
    ),
  ),
)

pub spanned_param : (s : List ℕ) → AnyOf SpannedParam s → AnyOf Param s
spanned_param s (v, (x, y, e, h, (z, w, g, k, (a, b, f, l, (c, d, i, m, (q, r, j, ((ms, n), o), p)))))) = (
  record { name = v.name; value = flat_map (λ m. m) ms },
  (
    x,
    y,
    e,
    h,
    (
      z,
      w,
      g,
      k,
      (
        61 ∷ 34 ∷ [],
        d,
        f ∙ ap (λ (t : List ℕ). t ++ b) l
            ∙ ap (λ (t : List ℕ). 61 ∷ t) (i ∙ ap (λ (t : List ℕ). t ++ d) m),
        refl,
        (q, r, j, (ms, refl, subst (Each Piece ms) (sym o) n), p),
      ),
    ),
  ),
)

pub Fails-param : (b : List ℕ) (remaining : ℕ) → Fails (AnyOf SpannedParam) b remaining
    → Fails (AnyOf Param) b remaining
Fails-param b remaining f = Fails-same (AnyOf SpannedParam) (AnyOf Param) b remaining spanned_param param_spanned f

pub Follows-param : (b rest : List ℕ) (v : ParamSpan) → Follows (SpannedParam v) b rest → Follows (AnyOf Param) b rest
Follows-param b rest v f = (f.0, f.1, spanned_param f.0 (v, f.2))

pub some_param : AnyOf Param (32 ∷ 97 ∷ 61 ∷ 34 ∷ 34 ∷ [])
some_param = spanned_param (32 ∷ 97 ∷ 61 ∷ 34 ∷ 34 ∷ []) (
  record { name = letter.0; raw = empty_value.0 },
  (32 ∷ [], 97 ∷ 61 ∷ 34 ∷ 34 ∷ [], refl, refl, (97 ∷ [], 61 ∷ 34 ∷ 34 ∷ [], refl, letter.1, empty_value.1)),
)

named_param : (s : List ℕ) → AnyOf Param s → Named 32 (AnyOf SpannedValue) s
named_param s h = named (param_spanned s h)
  where
    named : AnyOf SpannedParam s → Named 32 (AnyOf SpannedValue) s
    named (v, (x, y, e, h, (z, w, g, k, l))) = (x, y, e, h, (z, w, g, (v.name, k), (v.raw, l)))

pub IsPrefixFree-param : IsPrefixFree (AnyOf Param)
IsPrefixFree-param = IsPrefixFree-same (Named 32 (AnyOf SpannedValue)) (AnyOf Param) named_param
    (IsPrefixFree-named 32 (AnyOf SpannedValue) IsPrefixFree-spanned_value value_starts)

pub param_some : ¬ (AnyOf Param [])
param_some h = named_some 32 (AnyOf SpannedValue) (named_param [] h)

-- a parameter begins with a space
pub param_prefix : (s : List ℕ) → AnyOf Param s → (t : List ℕ) × (s ≡ 32 ∷ t)
param_prefix s h = prefix (named_param s h)
  where
    prefix : Named 32 (AnyOf SpannedValue) s → (t : List ℕ) × (s ≡ 32 ∷ t)
    prefix (x, y, e, h, k) = (y, e ∙ ap (λ (u : List ℕ). u ++ y) h)

-- ---- an element

abbrev pub Params : Language
Params = Many Param (Only (93 ∷ []))

abbrev pub SpannedParams : List ℕ → Language
SpannedParams text = Text (AnyOf (Each Param)) text ⋅ Only (93 ∷ [])

apart_param : (p s q t : List ℕ) → AnyOf Param p → q ≡ 93 ∷ [] → p ++ s ≡ q ++ t → ⊥
apart_param p s q t h k e =
    let f = param_prefix p h in
    let both : 32 ∷ (f.0 ++ s) ≡ 93 ∷ t = ap (λ (u : List ℕ). u ++ s) (sym f.1) ∙ e ∙ ap (λ (u : List ℕ). u ++ t) k in
    let same : 32 ≡ 93 = heads 32 93 (f.0 ++ s) t both in
    omega (arith, same)

IsPrefixFree-params : IsPrefixFree Params
IsPrefixFree-params = IsPrefixFree-many Param (Only (93 ∷ [])) IsPrefixFree-param (IsPrefixFree-only (93 ∷ []))
    apart_param

from_spanned : (s : List ℕ) → AnyOf SpannedParams s → Params s
from_spanned s (t, (x, y, e, (h, g), k)) = (x, y, e, subst (AnyOf (Each Param)) (sym g) h, k)

pub IsPrefixFree-spanned_params : IsPrefixFree (AnyOf SpannedParams)
IsPrefixFree-spanned_params = IsPrefixFree-same Params (AnyOf SpannedParams) from_spanned IsPrefixFree-params

pub params_start : StartsIn EndsName (AnyOf SpannedParams)
params_start s h = elim (many_cases Param (Only (93 ∷ [])) s (from_spanned s h)) [
  | inl k ↦ let f = param_prefix k.0 k.3 in (
    32,
    f.0 ++ k.1,
    k.2
        ∙ ap (λ (u : List ℕ). u ++ k.1) f.1,
    λ n. omega (arith, n.0.0),
  )
  | inr k ↦ (93, [], k, λ n. n.2 refl)
]

pub no_params : AnyOf SpannedParams (93 ∷ [])
no_params = ([], ([], 93 ∷ [], refl, (([], refl), refl), refl))

pub as_element : (b : List ℕ) (remaining : ℕ) → Fails (Named 91 (AnyOf SpannedParams)) b remaining
    → Fails (AnyOf SpannedElement) b remaining
as_element b remaining f =
    Fails-same (Named 91 (AnyOf SpannedParams)) (AnyOf SpannedElement) b remaining
    (λ s (x, y, e, h, (z, w, g, (n, k), (t, l))). (record { id = n; params = t }, (x, y, e, h, (z, w, g, k, l))))
    (λ s (v, (x, y, e, h, (z, w, g, k, l))). (x, y, e, h, (z, w, g, (v.id, k), (v.params, l))))
    f

pub whole_element : (b rest after end : List ℕ) (v : ElementSpan) → Follows (Only (91 ∷ [])) b rest
    → Follows (Name v.id) rest after → Follows (SpannedParams v.params) after end → Follows (SpannedElement v) b end
whole_element b rest after end v f g h = Follows-then (Only (91 ∷ [])) (Name v.id ⋅ SpannedParams v.params) b rest end f
    (Follows-then (Name v.id) (SpannedParams v.params) rest after end g h)

pub element_spanned : (s : List ℕ) → AnyOf Element s → AnyOf SpannedElement s
element_spanned s (p, (x, y, e, h, (z, w, g, k, (u, v, f, l, m)))) =
    (record { id = p.id; params = u }, (x, y, e, h, (z, w, g, k, (u, v, f, ((p.params, l), refl), m))))

pub spanned_element : (s : List ℕ) → AnyOf SpannedElement s → AnyOf Element s
spanned_element s (v, (x, y, e, h, (z, w, g, k, (a, b, f, ((ps, l), i), m)))) =
    (record { id = v.id; params = ps }, (x, y, e, h, (z, w, g, k, (a, b, f, subst (Each Param ps) (sym i) l, m))))

pub Fails-element : (b : List ℕ) (remaining : ℕ) → Fails (AnyOf SpannedElement) b remaining
    → Fails (AnyOf Element) b remaining
Fails-element b remaining f = Fails-same (AnyOf SpannedElement) (AnyOf Element) b remaining spanned_element
    element_spanned f

pub Follows-element : (b rest : List ℕ) (v : ElementSpan) → Follows (SpannedElement v) b rest
    → Follows (AnyOf Element) b rest
Follows-element b rest v f = (f.0, f.1, spanned_element f.0 (v, f.2))

named_element : (s : List ℕ) → AnyOf Element s → Named 91 (AnyOf SpannedParams) s
named_element s h = named (element_spanned s h)
  where
    named : AnyOf SpannedElement s → Named 91 (AnyOf SpannedParams) s
    named (v, (x, y, e, h, (z, w, g, k, l))) = (x, y, e, h, (z, w, g, (v.id, k), (v.params, l)))

pub IsPrefixFree-element : IsPrefixFree (AnyOf Element)
IsPrefixFree-element = IsPrefixFree-same (Named 91 (AnyOf SpannedParams)) (AnyOf Element) named_element
    (IsPrefixFree-named 91 (AnyOf SpannedParams) IsPrefixFree-spanned_params params_start)

pub element_some : ¬ (AnyOf Element [])
element_some h = named_some 91 (AnyOf SpannedParams) (named_element [] h)

-- an element begins with a bracket
pub element_prefix : (s : List ℕ) → AnyOf Element s → (t : List ℕ) × (s ≡ 91 ∷ t)
element_prefix s h = prefix (named_element s h)
  where
    prefix : Named 91 (AnyOf SpannedParams) s → (t : List ℕ) × (s ≡ 91 ∷ t)
    prefix (x, y, e, h, k) = (y, e ∙ ap (λ (u : List ℕ). u ++ y) h)
