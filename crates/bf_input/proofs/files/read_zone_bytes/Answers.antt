use Rattle.std.proofs.Common.{option_map, string_bytes, subst}
use Rattle.bf_disk.specs.Files.{IsHeldIfNamed}
use Rattle.bf_input.proofs.WholeFiles.{zone_alike}
use Rattle.bf_input.proofs.files.read_zone_bytes.Goals as goal

pub returns-in_ok-bytes-in-Some-clause-means : goal.returns-in_ok-bytes-in-Some-clause-means
returns-in_ok-bytes-in-Some-clause-means g c = λ held told.
    zone_alike (g.S.Source.file c.args.files.now) (string_bytes c.in-Some.path) c.in_ok-bytes-in-Some.bytes.items c.in_ok-bytes-in-Some.ensures.ok held
    (subst (λ path. IsHeldIfNamed (g.S.Source.file c.args.files.now) (option_map string_bytes path) held) c.in-Some.is told)
