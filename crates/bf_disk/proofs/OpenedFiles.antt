-- What is read through the devices of files.
use Rattle.std.proofs.Common.{◌≡◌, ◌≢◌, ◌<◌, ◌++◌, ℕ, Bool, true, not, bytes_eq, List, length, take, Option, Some, None, Result, Ok, Err, Vec, IfOk, IfErr, IfSome, IsErrAnd, refl, sym, ap, ◌∙◌, subst, inl, inr, arith}
use Rattle.std.proofs.lemmas.Bool.{true≢false}
use Rattle.std.proofs.lemmas.Bool.Decides.{leb_tells}
use Rattle.std.proofs.lemmas.Slice.Eq.{bytes_eq-Decides}
use Rattle.std.proofs.lemmas.List.{length-take-le, take_all}
use Rattle.std.proofs.Math.Seq.{take-append_seam}
use Rattle.std.specs.Io.KnownBytes.{Consumes}
use Rattle.std.specs.Global.{Global}
use Rattle.bf_device.specs.Device.{HasHalted}
use Rattle.bf_disk.specs.inner.Halting.{HasHaltedSince}
use Rattle.bf_disk.specs.declared.source.SourceFault.{SourceFault}
use Rattle.bf_disk.specs.declared.source.SourceFault.TheVariants.{CannotRead, OutOfMemory}
use Rattle.bf_disk.specs.Source.{GivesBehind, GivesFirst, IsBehind, NeverHalts, Opens}

module _ {D : Type 0} (left : D → Option (List ℕ)) where
  -- no first bytes are read of a file that is not opened
  pub unopened_first : (count : ℕ) (file : Option (Option (List ℕ))) (fault : SourceFault) (r : Result (Vec ℕ Global) SourceFault) → IsErrAnd r (λ e. e ≡ fault)
      → IfSome file (λ held. Opens left held (Err fault)) → IfSome file (λ held. GivesFirst count held r)
  unopened_first count None fault r up opens = tt
  unopened_first count (Some None) fault (Ok bytes) up opens = absurd up
  unopened_first count (Some None) fault (Err e) up opens = tt
  unopened_first count (Some (Some held)) fault (Ok bytes) up opens = absurd up
  unopened_first count (Some (Some held)) fault (Err e) up opens = up ∙ opens

  module _ (interruptions failures : D → ℕ) where
    unhalted : NeverHalts interruptions failures → (before after : D) → HasHalted (failures before) (failures after) (interruptions before) (interruptions after) → ⊥
    unhalted steady before after halted =
        let old = steady before in
        let new = steady after in
        elim halted [ inl failed ↦ omega (arith, failed, old.1, new.1) | inr interrupted ↦ omega (arith, interrupted, old.0, new.0) ]

    -- the first bytes that the device gives are those of the file
    pub first_of : (count : ℕ) (file : Option (Option (List ℕ))) (before after : D) (r : Result (Vec ℕ Global) SourceFault) → IfSome file (λ held. Opens left held (Ok before))
        → IfSome file (λ _. NeverHalts interruptions failures) → IfOk r (λ bytes. IfSome (left before) (λ held. bytes.items ≡ take count held))
        → IfErr r (λ fault. fault ≡ CannotRead → HasHalted (failures before) (failures after) (interruptions before) (interruptions after))
        → IfSome file (λ held. GivesFirst count held r)
    first_of count None before after r opens steady first halted = tt
    first_of count (Some None) before after r opens steady first halted = absurd opens
    first_of count (Some (Some held)) before after (Ok bytes) opens steady first halted = subst (λ (o : Option (List ℕ)). IfSome o (λ h. bytes.items ≡ take count h)) opens first
    first_of count (Some (Some held)) before after (Err OutOfMemory) opens steady first halted = refl
    first_of count (Some (Some held)) before after (Err CannotRead) opens steady first halted = absurd (unhalted steady before after (halted refl))

  -- no bytes are read of a file that is not opened
  pub unopened_behind : (front : List ℕ) (file : Option (Option (List ℕ))) (fault : SourceFault) (r : Result (Option (Vec ℕ Global)) SourceFault) → IsErrAnd r (λ e. e ≡ fault)
      → IfSome file (λ held. Opens left held (Err fault)) → IfSome file (λ held. GivesBehind front held r)
  unopened_behind front None fault r up opens = tt
  unopened_behind front (Some None) fault (Ok read) up opens = absurd up
  unopened_behind front (Some None) fault (Err e) up opens = tt
  unopened_behind front (Some (Some held)) fault (Ok read) up opens = absurd up
  unopened_behind front (Some (Some held)) fault (Err e) up opens = up ∙ opens

  module _ (interruptions failures : D → ℕ) where
    -- what the device gives is what the file has
    pub behind_of : (front : List ℕ) (file : Option (Option (List ℕ))) (before after : D) (r : Result (Option (Vec ℕ Global)) SourceFault) → IfSome file (λ held. Opens left held (Ok before))
        → IfSome file (λ _. NeverHalts interruptions failures) → IfOk r (λ read. IfSome (left before) (λ held. IsBehind front held read))
        → IfErr r (λ fault. fault ≡ CannotRead → HasHaltedSince interruptions failures after)
        → IfSome file (λ held. GivesBehind front held r)
    behind_of front None before after r opens steady behind halted = tt
    behind_of front (Some None) before after r opens steady behind halted = absurd opens
    behind_of front (Some (Some held)) before after (Ok read) opens steady behind halted = subst (λ (o : Option (List ℕ)). IfSome o (λ h. IsBehind front h read)) opens behind
    behind_of front (Some (Some held)) before after (Err OutOfMemory) opens steady behind halted = refl
    behind_of front (Some (Some held)) before after (Err CannotRead) opens steady behind halted =
        let since = halted refl in absurd (unhalted interruptions failures steady since.0 after since.1)

-- ---- what stands behind a front

-- of a file that begins otherwise
pub begins_otherwise : (front read : List ℕ) (known : Option (List ℕ)) → IfSome known (λ held. read ≡ take (length front) held) → (read ≡ front → ⊥)
    → IfSome known (λ held. (rest : List ℕ) → held ≢ front ++ rest)
begins_otherwise front read None first other = tt
begins_otherwise front read (Some held) first other = λ rest is. other (first ∙ ap (take (length front)) is ∙ take-append_seam front rest)

-- bytes that aren't equal to those
pub unlike : (differ : Bool) (bytes read front : List ℕ) → differ ≡ not (bytes_eq bytes front) → differ ≡ true → bytes ≡ read → read ≡ front → ⊥
unlike differ bytes read front is so same alike = true≢false (sym so ∙ is ∙ ap not ((bytes_eq-Decides bytes front).1 (same ∙ alike)))

-- where fewer bytes are read than may be, all are
all_of : (most : ℕ) (held bytes : List ℕ) → bytes ≡ take most held → length bytes < most → bytes ≡ held
all_of most held bytes read few = elim (leb_tells (length held) most) [
  | inl short ↦ read ∙ take_all most held short.1
  | inr long ↦ let count : length bytes ≡ most = ap length read ∙ length-take-le most held (omega (arith, long.1)) in absurd (omega (arith, count, few))
]

-- of one that begins so
pub both_parts : (front read rest all : List ℕ) (most : ℕ) (before between : Option (List ℕ)) → Consumes before between read → IfSome between (λ held. rest ≡ take most held)
    → length rest < most → all ≡ read ++ rest → IfSome before (λ held. all ≡ held)
both_parts front read rest all most None between taken last few are = tt
both_parts front read rest all most (Some held) None taken last few are = absurd taken
both_parts front read rest all most (Some held) (Some more) taken last few are =
    are ∙ ap (λ (b : List ℕ). read ++ b) (all_of most more rest last few) ∙ sym taken
