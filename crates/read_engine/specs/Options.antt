-- What is asked of a reading.
use Rattle.std.specs.Prelude.{◌≡◌, None}
use Rattle.archive_sets.specs.Together.{HasNoTest}
use Rattle.read_engine.specs.declared.options.ReadForm.TheVariants.{Archive}
use Rattle.read_engine.specs.declared.options.ReadOptions.{ReadOptions}

-- all records of some times are asked for, as an archive
pub record IsPlain (o : ReadOptions) : Type 0 where
  pub no_test : HasNoTest o.conditions
  pub all : o.last ≡ None
  pub archive : o.form ≡ Archive
