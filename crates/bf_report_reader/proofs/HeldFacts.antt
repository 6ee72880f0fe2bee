-- Bytes that come one after another.
use Rattle.std.proofs.Common.{◌≡◌, ◌≤◌, ℕ, Bool, List, [], ◌++◌, take, drop, Option, Some, None, Result, Ok, Err, OnOk, refl, sym, ap, ◌∙◌, append_assoc, arith}
use Rattle.std.specs.Io.KnownBytes.{prepend_known, Consumes, Keeps}
use Rattle.std.proofs.lemmas.List.{length-take, drop_all}
use Rattle.bf_report_reader.specs.declared.fault.Halted.{Halted}

pub nothing_first : (left : Option (List ℕ)) → prepend_known [] left ≡ left
nothing_first None = refl
nothing_first (Some xs) = refl

pub nothing_held : (start end : ℕ) (room : List ℕ) → end ≤ start → drop start (take end room) ≡ []
nothing_held start end room past = drop_all start (take end room) (omega (arith, length-take end room, past))

-- what was consumed into hand is ahead still
pub consumes_held : (old new : Option (List ℕ)) (none held : List ℕ) (more : Result Bool Halted) → none ≡ [] → OnOk more (Consumes old new held) → OnOk more (Consumes (prepend_known none old) (prepend_known held new) [])
consumes_held old new none held (Err halted) empty c = tt
consumes_held None new none held (Ok more) empty c = tt
consumes_held (Some xs) None none held (Ok more) empty c = absurd c
consumes_held (Some xs) (Some ys) none held (Ok more) empty c = ap (λ l. l ++ xs) empty ∙ c

-- what is held comes before what is left
pub consumes_first : (held front rest : List ℕ) (left : Option (List ℕ)) → held ≡ front ++ rest → Consumes (prepend_known held left) (prepend_known rest left) front
consumes_first held front rest None e = tt
consumes_first held front rest (Some xs) e = ap (λ l. l ++ xs) e ∙ append_assoc front rest xs

pub consumes_more : (a b c : Option (List ℕ)) (xs ys : List ℕ) → Consumes a b xs → Consumes b c ys → Consumes a c (xs ++ ys)
consumes_more None b c xs ys p q = tt
consumes_more (Some xa) None c xs ys p q = absurd p
consumes_more (Some xa) (Some xb) None xs ys p q = absurd q
consumes_more (Some xa) (Some xb) (Some xc) xs ys p q = p ∙ ap (λ l. xs ++ l) q ∙ sym (append_assoc xs ys xc)

pub keeps_consumes : (a b c : Option (List ℕ)) → Consumes a b [] → Keeps b c → Consumes a c []
keeps_consumes None b c p q = tt
keeps_consumes (Some xa) None c p q = absurd p
keeps_consumes (Some xa) (Some xb) None p q = absurd q
keeps_consumes (Some xa) (Some xb) (Some xc) p q = p ∙ sym q
