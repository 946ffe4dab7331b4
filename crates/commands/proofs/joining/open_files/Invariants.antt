use Rattle.std.proofs.Common.{◌≡◌, map, take}
use Rattle.commands.specs.JoinedFiles.{AreOpened}
use Rattle.commands.proofs.joining.open_files.Given as goal

abbrev pub invariant-loop-input : goal.invariant-loop-input
invariant-loop-input g l = record {
  stored : g.F.Files.stored l.files ≡ g.F.Files.stored l.fn.files;
  untold : g.N.Output.state l.diagnostics ≡ g.N.Output.state l.fn.diagnostics;
  opened : AreOpened (g.F.Files.stored l.fn.files) (map (λ s. s.now) (take l.input l.names))
      (map g.F.Reader.Input.state l.readers.items);
}
