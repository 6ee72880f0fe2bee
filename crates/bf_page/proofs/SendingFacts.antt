-- A text that goes out in parts.
use Rattle.std.proofs.Common.{◌≡◌, ◌≢◌, ℕ, zero, suc, ◌+◌, ◌%◌, ◌^◌, ◌≤◌, List, [], ◌∷◌, ◌++◌, length, take, drop, Option, Some, None, Ok, refl, sym, ap, ◌∙◌, append_assoc, arith, length-append, take-append-drop}
use Rattle.std.proofs.lemmas.List.{length-take-le}
use Rattle.bf_device.specs.Device.{sent, write_failed}

sent_sent : (told : Option (List ℕ)) (xs ys : List ℕ) → sent (sent told xs) ys ≡ sent told (xs ++ ys)
sent_sent None xs ys = refl
sent_sent (Some before) xs ys = ap Some (append_assoc before xs ys)

pub took_some : (bs : List ℕ) (n : ℕ) → n ≢ 0 → write_failed bs (Ok n) ≡ 0
took_some [] n some = refl
took_some (b ∷ bs) zero some = absurd (some refl)
took_some (b ∷ bs) (suc n) some = refl

-- the first bytes of the text went out, and these are left
pub record HasGoneOut (text rest : List ℕ) (counted : ℕ) (before after : Option (List ℕ)) : Type 0 where
  pub gone : List ℕ
  pub all : text ≡ gone ++ rest
  pub count : counted ≡ length gone % 2 ^ 64
  pub out : after ≡ sent before gone

pub more_out : (text front rest : List ℕ) (n counted : ℕ) (before after now : Option (List ℕ)) → HasGoneOut text (front ++ rest) counted before after → now ≡ sent after (take n front) → n ≤ length front → HasGoneOut text (drop n front ++ rest) ((counted + n) % 2 ^ 64) before now
more_out text front rest n counted before after now so_far wrote few = record {
  gone = so_far.gone ++ take n front;
  all = so_far.all ∙ ap (λ s. so_far.gone ++ (s ++ rest)) (sym (take-append-drop n front)) ∙ ap (λ s. so_far.gone ++ s) (append_assoc (take n front) (drop n front) rest) ∙ sym (append_assoc so_far.gone (take n front) (drop n front ++ rest));
  count = omega (arith, so_far.count, length-append so_far.gone (take n front), length-take-le n front few);
  out = wrote ∙ ap (λ told. sent told (take n front)) so_far.out ∙ sent_sent before so_far.gone (take n front);
}
