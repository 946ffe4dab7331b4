use Rattle.archive_tree.proofs.TreeLaws.{path_one, path_in_left, path_in_right}
use Rattle.archive_tree.proofs.laws.audit_paths_are_of_the_standard.Goals as goal

pub returns : goal.returns
returns c =
    record {
      one = path_one;
      left = λ h i xs ys. path_in_left h xs ys i;
      right = λ h i xs ys. path_in_right h xs ys i;
    }
