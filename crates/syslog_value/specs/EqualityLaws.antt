-- The tests whether two values mean the same decide it.
use Rattle.std.proofs.Common.{◌≡◌, ℕ, ℤ, Bool, true, false, ◌&&◌, List, Option, Some, None, refl, ap}
use Rattle.std.specs.Bool.{Decides}
use Rattle.std.specs.Cmp.Lexicographic.{pointwise, pointwise_decides}
use Rattle.std.specs.Option.{option_eq}
use Rattle.std.specs.Ordering.{int_eq}
use Rattle.std.specs.Str.{bytes_eq}
use Rattle.std.proofs.lemmas.Slice.Eq.{bytes_eq-Decides}
use Rattle.std.proofs.lemmas.Bool.Decides.{Decides-eqb, Decides-int_eq}
use Rattle.syslog_value.specs.Parts.{ParamParts, ElementParts, MessageParts, AnyOctets, Utf8Text, Parts}
use Rattle.syslog_value.specs.Equality.{param_eq, element_eq, message_eq, words_eq, record_eq}

-- two tests together
both : (p q : Bool) (P Q R : Type 0) → Decides p P → Decides q Q → (P → Q → R) → (R → P) → (R → Q) → Decides (p && q) R
both true true P Q R dp dq make left right = (λ yes. make (dp.0 refl) (dq.0 refl), λ r. refl)
both true false P Q R dp dq make left right = (λ yes. cc, λ r. dq.1 (right r))
both false q P Q R dp dq make left right = (λ yes. cc, λ r. dp.1 (left r))

option_decides : {T : Type 0} (E : T → T → Bool) (each : (a b : T) → Decides (E a b) (a ≡ b)) (o p : Option T)
    → Decides (option_eq E o p) (o ≡ p)
option_decides E each None None = (λ yes. refl, λ same. refl)
option_decides E each None (Some y) = (λ yes. cc, λ same. cc)
option_decides E each (Some x) None = (λ yes. cc, λ same. cc)
option_decides E each (Some x) (Some y) = (λ yes. ap Some ((each x y).0 yes), λ same. (each x y).1 (cc))

param_of : List ℕ → List ℕ → ParamParts
param_of n v = record { name = n; value = v }

pub same_params : (p q : ParamParts) → p.name ≡ q.name → p.value ≡ q.value → p ≡ q
unfolding param_of
same_params p q name value = let same : param_of p.name p.value ≡ param_of q.name q.value = rw (name, value) in same

pub param_decides : (p q : ParamParts) → Decides (param_eq p q) (p ≡ q)
unfolding param_eq
param_decides p q =
    both _ _ (p.name ≡ q.name) (p.value ≡ q.value) (p ≡ q) (bytes_eq-Decides p.name q.name)
    (bytes_eq-Decides p.value q.value) (same_params p q)
    (ap (λ r. r.name)) (ap (λ r. r.value))

element_of : List ℕ → List ParamParts → ElementParts
element_of i ps = record { id = i; params = ps }

pub same_elements : (e f : ElementParts) → e.id ≡ f.id → e.params ≡ f.params → e ≡ f
unfolding element_of
same_elements e f id params = let same : element_of e.id e.params ≡ element_of f.id f.params = rw (id, params) in same

pub element_decides : (e f : ElementParts) → Decides (element_eq e f) (e ≡ f)
unfolding element_eq
element_decides e f =
    both _ _ (e.id ≡ f.id) (e.params ≡ f.params) (e ≡ f) (bytes_eq-Decides e.id f.id)
    (pointwise_decides param_decides e.params f.params)
    (same_elements e f) (ap (λ g. g.id)) (ap (λ g. g.params))

pub elements_decide : (es fs : List ElementParts) → Decides (pointwise element_eq es fs) (es ≡ fs)
elements_decide es fs = pointwise_decides element_decides es fs

pub message_decides : (m n : MessageParts) → Decides (message_eq m n) (m ≡ n)
unfolding message_eq
message_decides (AnyOctets a) (AnyOctets b) =
    (λ yes. ap AnyOctets ((bytes_eq-Decides a b).0 yes), λ same. (bytes_eq-Decides a b).1 (cc))
message_decides (AnyOctets a) (Utf8Text b) = (λ yes. cc, λ same. cc)
message_decides (Utf8Text a) (AnyOctets b) = (λ yes. cc, λ same. cc)
message_decides (Utf8Text a) (Utf8Text b) =
    (λ yes. ap Utf8Text ((bytes_eq-Decides a b).0 yes), λ same. (bytes_eq-Decides a b).1 (cc))

word_decides : (o p : Option (List ℕ)) → Decides (option_eq bytes_eq o p) (o ≡ p)
word_decides o p = option_decides bytes_eq bytes_eq-Decides o p

-- the same four words
record SameWords (r s : Parts ℤ) : Type 0 where
  hostname : r.hostname ≡ s.hostname
  app_name : r.app_name ≡ s.app_name
  proc_id : r.proc_id ≡ s.proc_id
  msg_id : r.msg_id ≡ s.msg_id

words_decide : (r s : Parts ℤ) → Decides (words_eq r s) (SameWords r s)
unfolding words_eq
words_decide r s =
    both _ _ (r.hostname ≡ s.hostname) ((r.app_name ≡ s.app_name) × (r.proc_id ≡ s.proc_id) × (r.msg_id ≡ s.msg_id))
    (SameWords r s)
    (word_decides r.hostname s.hostname)
    (both _ _ (r.app_name ≡ s.app_name) ((r.proc_id ≡ s.proc_id) × (r.msg_id ≡ s.msg_id))
    ((r.app_name ≡ s.app_name) × (r.proc_id ≡ s.proc_id) × (r.msg_id ≡ s.msg_id))
    (word_decides r.app_name s.app_name)
    (both _ _ (r.proc_id ≡ s.proc_id) (r.msg_id ≡ s.msg_id) ((r.proc_id ≡ s.proc_id) × (r.msg_id ≡ s.msg_id))
    (word_decides r.proc_id s.proc_id)
    (word_decides r.msg_id s.msg_id) (λ p m. (p, m)) (λ t. t.0) (λ t. t.1))
    (λ a t. (a, t.0, t.1)) (λ t. t.0) (λ t. (t.1, t.2)))
    (λ h t. record { hostname = h; app_name = t.0; proc_id = t.1; msg_id = t.2 }) (λ w. w.hostname)
    (λ w. (w.app_name, w.proc_id, w.msg_id))

parts_of : ℕ → Option ℤ → Option (List ℕ) → Option (List ℕ) → Option (List ℕ) → Option (List ℕ) → List ElementParts
    → MessageParts → Parts ℤ
parts_of p t h a c m e x = record {
  priority = p;
  time = t;
  hostname = h;
  app_name = a;
  proc_id = c;
  msg_id =
      m;
  elements = e;
  message = x;
}

-- a record by its parts
pub same_record : (r s : Parts ℤ) → r.priority ≡ s.priority → r.time ≡ s.time → r.hostname ≡ s.hostname
    → r.app_name ≡ s.app_name → r.proc_id ≡ s.proc_id → r.msg_id ≡ s.msg_id → r.elements ≡ s.elements
    → r.message ≡ s.message → r ≡ s
unfolding parts_of
same_record r s priority time hostname app_name proc_id msg_id elements message =
    let same : parts_of r.priority r.time r.hostname r.app_name r.proc_id r.msg_id r.elements r.message
    ≡ parts_of s.priority s.time s.hostname s.app_name s.proc_id s.msg_id s.elements s.message =
    rw (priority, time, hostname, app_name, proc_id, msg_id, elements, message) in
    same

words_of_same : (r s : Parts ℤ) → r ≡ s → SameWords r s
words_of_same r s same =
    record {
      hostname = ap (λ t. t.hostname) same;
      app_name = ap (λ t. t.app_name) same;
      proc_id =
          ap (λ t. t.proc_id) same;
      msg_id = ap (λ t. t.msg_id) same;
    }

pub record_decides : (r s : Parts ℤ) → Decides (record_eq r s) (r ≡ s)
unfolding record_eq
record_decides r s =
    both _ _ (r.priority ≡ s.priority) ((r.time ≡ s.time) × SameWords r s × (r.elements ≡ s.elements)
    × (r.message ≡ s.message)) (r ≡ s)
    (Decides-eqb r.priority s.priority)
    (both _ _ (r.time ≡ s.time) (SameWords r s × (r.elements ≡ s.elements) × (r.message ≡ s.message))
    ((r.time ≡ s.time) × SameWords r s × (r.elements ≡ s.elements) × (r.message ≡ s.message))
    (option_decides int_eq Decides-int_eq r.time s.time)
    (both _ _ (SameWords r s) ((r.elements ≡ s.elements) × (r.message ≡ s.message))
    (SameWords r s × (r.elements ≡ s.elements) × (r.message ≡ s.message))
    (words_decide r s)
    (both _ _ (r.elements ≡ s.elements) (r.message ≡ s.message) ((r.elements ≡ s.elements) × (r.message ≡ s.message))
    (elements_decide r.elements s.elements) (message_decides r.message s.message) (λ e m. (e, m)) (λ t. t.0) (λ t. t.1))
    (λ w t. (w, t.0, t.1)) (λ t. t.0) (λ t. (t.1, t.2)))
    (λ t u. (t, u.0, u.1, u.2)) (λ t. t.0) (λ t. (t.1, t.2, t.3)))
    (λ p t. same_record r s p t.0 t.1.hostname t.1.app_name t.1.proc_id t.1.msg_id t.2 t.3) (ap (λ t. t.priority))
    (λ same. (ap (λ t. t.time) same, words_of_same r s same, ap (λ t. t.elements) same, ap (λ t. t.message) same))
