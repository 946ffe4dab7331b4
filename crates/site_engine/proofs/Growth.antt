-- Facts on how the own records grow.
use Rattle.std.proofs.Common.{◌≡◌, ℕ, zero, suc, ◌<◌, List, [], ◌∷◌, inl, inr, arith, length, get_or, subst}
use Rattle.std.specs.Prelude.{◌⊎◌, ◌↔◌, Result}
use Rattle.archive_text.specs.Entries.{Entry, Has, IsEntry}
use Rattle.archive_text.specs.Text.{IsArchive}
use Rattle.archive_text.specs.declared.limits.TheConstants.{ENTRY_MAX}
use Rattle.archive_text.proofs.Members.{of_member}
use Rattle.reconcile.specs.Ranges.{IsInside}
use Rattle.reconcile.specs.Requests.{Did, Seen}
use Rattle.reconcile.specs.declared.range.Range.{Range}
use Rattle.reconcile.specs.declared.stopped.Stopped.{Stopped}
use Rattle.store_site.specs.Ranges.{IsInSome}
use Rattle.site_engine.specs.Growing.{GrowsBy}

pub grows_none : (P : Entry → Type 0) (es : List Entry) → IsArchive ENTRY_MAX es → GrowsBy P es es
grows_none P es h = record { archive = h; keeps = λ x m. m; from = λ x m. inl m }

pub grows_then : {A : Type 0} (P Q : Entry → Type 0) (a b c : List Entry) (old new : Seen) (r : Result A Stopped)
    → GrowsBy P a b → Did Q b c old new r → ((x : Entry) → Q x → P x) → GrowsBy P a c
grows_then P Q a b c old new r g d wider = record {
  archive = d.archive;
  keeps = λ x m. d.keeps x (g.keeps x m);
  from = λ x m. elim (d.from x m) [ inl k ↦ g.from x k | inr q ↦ inr (wider x q) ];
}

pub grows_wider : (P Q : Entry → Type 0) (a b : List Entry) → GrowsBy P a b
    → ((x : Entry) → IsEntry x → P x → Q x) → GrowsBy Q a b
grows_wider P Q a b g wider = record {
  archive = g.archive;
  keeps = g.keeps;
  from = λ x m. elim (g.from x m) [
    | inl k ↦ inl k
    | inr p ↦ inr (wider x (of_member IsEntry b x g.archive.entries m) p)
  ];
}

pub in_some : (rs : List Range) (i : ℕ) (d : Range) (e : Entry) → i < length rs → IsInside (get_or rs i d) e
    → IsInSome rs e
in_some [] i d e lt h = absurd (omega arith)
in_some (r ∷ rs) zero d e lt h = inl h
in_some (r ∷ rs) (suc i) d e lt h = inr (in_some rs i d e (omega arith) h)
