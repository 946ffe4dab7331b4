use Rattle.std.proofs.Common.{rules}
use Rattle.std.specs.Prelude.{not}
use Rattle.std.proofs.lemmas.Fn.{filter_same}
use Rattle.read_engine.proofs.LeftOut.{names_without}
use Rattle.read_engine.specs.LeftOut.{is_among}
use Rattle.read_engine.proofs.without_files.WithoutFilesFolder.names.Goals as goal

pub returns-clause-names : goal.returns-clause-names
returns-clause-names g c = λ t.
    names_without c.args.self.now.left_out.now.names.items (g.F.Folder.files c.args.self.now.folder.now) c.in_ok-names.names.items
    c.retain.new.self.items (c.in_ok-names.ensures.names t)
    (filter_same _ (λ n. not (is_among c.args.self.now.left_out.now.names.items n)) _ (λ x b f' k. search rules) _ _
    c.retain.ensures.filtered)
