-- What whoever watches a server has seen after some turns.
use Rattle.std.proofs.Common.{◌≡◌, ℕ, Bool, List, [], ◌∷◌}
use Rattle.serve_engine.specs.Watching.{SeesAll, Shows, ShowsLast, WatchedRun}
use Rattle.serve_engine.specs.declared.counts.ServeCounts.{ServeCounts}
use Rattle.serve_engine.specs.declared.serve_end.ServeEnd.{ServeEnd}
use Rattle.serve_engine.specs.declared.watch.ServerView.{ServerView}

-- after so many turns the last one shows the server, or there was no turn
abbrev pub ShowsAfter : ℕ → List ServerView → ServeCounts → Bool → Type 0
ShowsAfter n [] counted full = n ≡ 0
ShowsAfter n (v ∷ vs) counted full = Shows v counted full

abbrev pub WatchedAfter : {W : Type 0} → (W → W → ServerView → Type 0) → ℕ → W → W → ServeCounts → Bool → Type 0
WatchedAfter sees n a b counted full =
    (views : List ServerView) × SeesAll sees a views b × ShowsAfter n views counted full

last : (end : ServeEnd) (n : ℕ) (views : List ServerView) (counted : ServeCounts) (full : Bool) → (n ≡ 0 → ⊥)
    → ShowsAfter n views counted full → ShowsLast end views counted full
last end n [] counted full some none = absurd (some none)
last end n (v ∷ vs) counted full some shows = shows

-- a run of some turns is watched
pub watched : {W : Type 0} (sees : W → W → ServerView → Type 0) (end : ServeEnd) (n : ℕ) (a b : W) (counted : ServeCounts)
    (full : Bool) → (n ≡ 0 → ⊥) → WatchedAfter sees n a b counted full → WatchedRun sees end a b counted full
watched sees end n a b counted full some (views, seen, shows) = (views, seen, last end n views counted full some shows)
