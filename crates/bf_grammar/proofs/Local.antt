-- What is simple has nothing global.
use Rattle.std.proofs.Common.{◌≡◌, Bool, true, false, ◌&&◌, not, refl, is_some}
use Rattle.std.proofs.lemmas.Bool.{false≢true}
use Rattle.clap.specs.Walk.{is_empty}
use Rattle.clap.specs.Words.{app_of, rule_of}
use Rattle.clap.specs.declared.builder.arg.Arg.{Arg}
use Rattle.clap.specs.declared.builder.command.Command.{Command}
use Rattle.clap.specs.declared.builder.command.Command.TheViews.{out-Command}

and_left : (x y : Bool) → (x && y) ≡ true → x ≡ true
and_left true y h = refl
and_left false y h = h

and_right : (x y : Bool) → (x && y) ≡ true → y ≡ true
and_right true y h = h
and_right false y h = absurd (false≢true h)

not_true : (x : Bool) → not x ≡ true → x ≡ false
not_true true h = absurd (false≢true h)
not_true false h = refl

third : (a b c d : Bool) → (a && (b && (not c && d))) ≡ true → c ≡ false
third a b c d h = not_true c (and_left (not c) d (and_right b _ (and_right a _ h)))

tenth : (a b c d e f g h i j : Bool) → (a && (b && (c && (d && (e && (f && (g && (h && (i && not j))))))))) ≡ true → j ≡ false
tenth a b c d e f g h i j all = not_true j
    (and_right i _ (and_right h _ (and_right g _ (and_right f _ (and_right e _ (and_right d _ (and_right c _ (and_right b _ (and_right a _ all)))))))))

pub local_argument : (argument : Arg) → (rule_of argument).is_simple ≡ true → argument.global ≡ false
local_argument a h = tenth (is_empty a.overrides.items) (is_empty a.default_vals_ifs.items) (is_empty a.groups.items) (not (is_some a.val_delim))
    (not (is_some a.terminator)) (not a.allow_hyphen_values) (not a.allow_negative_numbers) (not a.require_equals) (not a.last) a.global h

pub local_command : (command : Command) → (app_of command).top.is_plain ≡ true → (out-Command command).has_globals ≡ false
local_command command h = third _ _ (out-Command command).has_globals _ h
