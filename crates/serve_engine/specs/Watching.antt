-- What is shown to whoever watches a server.
use Rattle.std.specs.Prelude.{◌≡◌, Bool, List, [], ◌∷◌}
use Rattle.serve_engine.specs.declared.counts.ServeCounts.{ServeCounts}
use Rattle.serve_engine.specs.declared.serve_end.ServeEnd.{ServeEnd}
use Rattle.serve_engine.specs.declared.serve_end.ServeEnd.TheVariants.{Memory}
use Rattle.serve_engine.specs.declared.watch.ServerView.{ServerView}

-- it shows these counts, and whether what came waits
pub record Shows (view : ServerView) (counted : ServeCounts) (full : Bool) : Type 0 where
  pub counts : view.counts ≡ counted
  pub waits : view.waits ≡ full

-- these were seen, one after the other, the last one first
abbrev pub SeesAll : {W : Type 0} → (W → W → ServerView → Type 0) → W → List ServerView → W → Type 0
SeesAll sees a [] b = b ≡ a
SeesAll {W = W} sees a (v ∷ vs) b = (w : W) × SeesAll sees a vs w × sees w b v

-- the last one shows the server as it is now; there is none only where a run had no memory for a turn
abbrev pub ShowsLast : ServeEnd → List ServerView → ServeCounts → Bool → Type 0
ShowsLast end [] counted full = end ≡ Memory
ShowsLast end (v ∷ vs) counted full = Shows v counted full

-- in a run, whoever watches has seen the server, and at last as it is now
abbrev pub WatchedRun : {W : Type 0} → (W → W → ServerView → Type 0) → ServeEnd → W → W → ServeCounts → Bool → Type 0
WatchedRun sees end a b counted full =
    (views : List ServerView) × SeesAll sees a views b × ShowsLast end views counted full
