use Rattle.clap.specs.Words.{found_of, rows_of}
use Rattle.condition_words.specs.Tests.{lists_asked}
use Rattle.condition_words.proofs.TestLemmas.{ListsSoFar}
use Rattle.condition_words.proofs.tests_asked.lists.Given as goal

abbrev pub invariant-loop-option : goal.invariant-loop-option
invariant-loop-option l = ListsSoFar l.options (rows_of (found_of l.matches)) (lists_asked l.lists.items) l.option-index
