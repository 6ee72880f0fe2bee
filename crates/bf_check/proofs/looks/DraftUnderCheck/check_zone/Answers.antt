use Rattle.std.proofs.Common.{List, ℕ, option_map, subst}
use Rattle.bf_check.specs.Schedules.{IsNoZone, IsZoneFor}
use Rattle.bf_check.proofs.looks.DraftUnderCheck.check_zone.Goals as goal

pub returns-in-Ok-clause-ok : goal.returns-in-Ok-clause-ok
returns-in-Ok-clause-ok c = subst (λ (text : List ℕ). IsZoneFor text (option_map (λ s. s.now) c.args.self.now.zone_file) c.in-Ok.zone) c.as_str.ensures c.in-Ok.ensures

pub returns-in-Ok-clause-scheduled : goal.returns-in-Ok-clause-scheduled
returns-in-Ok-clause-scheduled c = record {
  spec = c.requires.fires.0;
  fires = c.requires.fires.1;
  zone = c.in-Ok.zone;
  zone_is = subst (λ (text : List ℕ). IsZoneFor text (option_map (λ s. s.now) c.args.self.now.zone_file) c.in-Ok.zone) c.as_str.ensures c.in-Ok.ensures;
}

pub returns-in-Err-Bad-clause-err : goal.returns-in-Err-Bad-clause-err
returns-in-Err-Bad-clause-err c =
    let file = option_map (λ s. s.now) c.args.self.now.zone_file in
    let none : IsNoZone c.as_str.result.now file = rw c.in-Err-Bad.field-0-is at c.in-Err-Bad.ensures in
    (subst (λ (text : List ℕ). IsNoZone text file) c.as_str.ensures none, c.requires.fires.0, c.requires.fires.1, c.requires.below)
