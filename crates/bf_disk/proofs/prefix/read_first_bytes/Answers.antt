use Rattle.bf_disk.proofs.OpenedFiles.{first_of, unopened_first}
use Rattle.bf_disk.proofs.prefix.read_first_bytes.Goals as goal

pub returns-in_err-device-clause-first : goal.returns-in_err-device-clause-first
returns-in_err-device-clause-first g c =
    unopened_first g.S.Device.Read.left c.args.count _ _ _ c.from_residual.ensures.1 c.in_err-device.ensures.opens

pub returns-clause-first : goal.returns-clause-first
returns-clause-first g c =
    first_of g.S.Device.Read.left g.S.Device.Read.interruptions g.S.Device.Read.failures c.args.count _ c.in_ok-device.device c.read_front.new.device c.read_front.result
    c.in_ok-device.ensures.opens c.in_ok-device.ensures.steady c.read_front.ensures.first c.read_front.ensures.halted
