use Rattle.bf_disk.proofs.OpenedFiles.{behind_of, unopened_behind}
use Rattle.bf_disk.proofs.prefix.read_behind.Goals as goal

pub returns-in_err-device-clause-behind : goal.returns-in_err-device-clause-behind
returns-in_err-device-clause-behind g c =
    unopened_behind g.S.Device.Read.left c.args.front.now _ _ _ c.from_residual.ensures.1 c.in_err-device.ensures.opens

pub returns-clause-behind : goal.returns-clause-behind
returns-clause-behind g c =
    behind_of g.S.Device.Read.left g.S.Device.Read.interruptions g.S.Device.Read.failures c.args.front.now _ c.in_ok-device.device c.read_device_behind.new.device c.read_device_behind.result
    c.in_ok-device.ensures.opens c.in_ok-device.ensures.steady c.read_device_behind.ensures.behind c.read_device_behind.ensures.halted
