use Rattle.std.proofs.Common.{◌≡◌, sym, subst, IfOk}
use Rattle.std.specs.Prelude.{option_map}
use Rattle.bf_reason.specs.declared.cause.StateCause.{StateCause}
use Rattle.bf_why.specs.Decided.{items_text_of}
use Rattle.bf_why.proofs.source.items_text.Goals as goal

pub returns-in-ItemsAreMissing : goal.returns-in-ItemsAreMissing
returns-in-ItemsAreMissing c =
    subst (λ (cause : StateCause). IfOk c.no_list_text.result (λ text. text ≡ items_text_of c.args.each (option_map (λ t. t.now) c.args.source) cause)) (sym c.in-ItemsAreMissing.is) (c.no_list_text.ensures c.args.each)
