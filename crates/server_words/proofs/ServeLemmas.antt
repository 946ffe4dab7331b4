-- What the words of `serve` ask for, where none of them is refused.
use Rattle.std.proofs.Common.{◌≡◌, ◌∙◌, List, [], ◌∷◌, Option, Some, ap, length, map, option_and_then, refl}
use Rattle.clap.specs.Walk.{Text}
use Rattle.server_words.specs.Listeners.{ListenerAsked, listener_asked}
use Rattle.server_words.specs.Networks.{NetworkAsked}
use Rattle.server_words.specs.Serves.{ServeAsked, served}
use Rattle.server_words.specs.declared.listeners.ListenerWords.{ListenerWords}
use Rattle.server_words.specs.declared.serve_words.ServeOptions.{ServeOptions}

abbrev asked : Text → List ListenerWords → List NetworkAsked → ServeOptions → ServeAsked
asked dir listeners allowed options =
    record { dir = dir; listeners = map listener_asked listeners; allowed = allowed; options = options }

some_served : (dir : Text) (listeners : List ListenerWords) (allowed : List NetworkAsked) (options : ServeOptions)
    → (length listeners ≡ 0 → ⊥)
    → Some (asked dir listeners allowed options) ≡ served dir (map listener_asked listeners) allowed options
some_served dir [] allowed options some = absurd (some refl)
some_served dir (x ∷ xs) allowed options some = refl

pub all_served : (dir : Text) (listeners : List ListenerWords) (allowed : List NetworkAsked) (options : ServeOptions)
    (d : Option Text) (l : Option (List ListenerAsked)) (n : Option (List NetworkAsked)) (o : Option ServeOptions)
    → Some dir ≡ d → Some (map listener_asked listeners) ≡ l → Some allowed ≡ n → Some options ≡ o
    → (length listeners ≡ 0 → ⊥)
    → Some (asked dir listeners allowed options)
    ≡ option_and_then (λ name. option_and_then (λ found. option_and_then (λ nets.
    option_and_then (served name found nets) o) n) l) d
all_served dir listeners allowed options d l n o e f h g some =
    some_served dir listeners allowed options some
    ∙ ap (λ (x : Option ServeOptions). option_and_then (served dir (map listener_asked listeners) allowed) x) g
    ∙ ap (λ (x : Option (List NetworkAsked)).
    option_and_then (λ nets. option_and_then (served dir (map listener_asked listeners) nets) o) x) h
    ∙ ap (λ (x : Option (List ListenerAsked)).
    option_and_then (λ found. option_and_then (λ nets. option_and_then (served dir found nets) o) n) x) f
    ∙ ap (λ (x : Option Text). option_and_then (λ name. option_and_then (λ found. option_and_then (λ nets.
    option_and_then (served name found nets) o) n) l) x) e
