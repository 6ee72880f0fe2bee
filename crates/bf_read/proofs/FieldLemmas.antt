-- Members of objects and items of lists, read one after another.
use Rattle.std.proofs.Common.{◌≡◌, ℕ, suc, ◌<◌, ◌+◌, List, [], ◌∷◌, ◌++◌, ◌&&◌, length, get_or, drop, drop-cons, add-one, Result, Ok, Err, String, Global, string_bytes, refl, sym, ap, ◌∙◌, append_assoc, append-nil}
use Rattle.std.specs.List.{list_all}
use Rattle.std.specs.Map.{keys_of}
use Rattle.serde_json.specs.Data.{Data, no_items, no_members}
use Rattle.serde_json.specs.View.{view, items_view, members_view}
use Rattle.serde_json.specs.declared.value.Value.{Value}
use Rattle.bf_read.specs.declared.fault.ReadFault.{ReadFault}
use Rattle.bf_read.specs.declared.fault.ReadFault.TheVariants.{NotJson, Shape, BadName, DuplicateTask, LimitPassed, OutOfMemory}
use Rattle.bf_read.specs.declared.fields.ObjectKind.{ObjectKind}
use Rattle.bf_read.specs.Gives.{◌>>=◌, Fails}
use Rattle.bf_read.specs.Fields.{is_key_in, has_known_keys_in, each_item, each_member}

pub known_by_keys : (kind : ObjectKind) (es : List (String Global × Value)) → list_all (λ name. is_key_in kind (string_bytes name)) (keys_of es) ≡ has_known_keys_in kind (members_view es)
known_by_keys kind [] = refl
known_by_keys kind (e ∷ es) = ap (λ b. is_key_in kind (string_bytes e.0) && b) (known_by_keys kind es)

-- ---- one after another

-- a fault of a step is the fault of the whole
pub fails_on : {A B : Type 0} (e : ReadFault) (read : Result A ReadFault) (f : A → Result B ReadFault) (whole : Result B ReadFault) → whole ≡ (read >>= f) → Fails e read → Fails e whole
fails_on OutOfMemory read f whole is h = tt
fails_on NotJson read f whole is h = is ∙ ap (λ r. r >>= f) h
fails_on (Shape p) read f whole is h = is ∙ ap (λ r. r >>= f) h
fails_on (BadName p) read f whole is h = is ∙ ap (λ r. r >>= f) h
fails_on (DuplicateTask id) read f whole is h = is ∙ ap (λ r. r >>= f) h
fails_on (LimitPassed p) read f whole is h = is ∙ ap (λ r. r >>= f) h

-- what is left of a list, from its next item on
pub rest_from : {A : Type 0} → (xs : List A) (i : ℕ) (x : A) → i < length xs → x ≡ get_or xs i x → drop i xs ≡ x ∷ drop (i + 1) xs
rest_from xs i x h e = rw add-one (drop-cons xs i x h ∙ ap (λ y. y ∷ drop (suc i) xs) (sym e))

-- what was read before, and then what is read of the rest
abbrev pub after : {A : Type 0} → List A → Result (List A) ReadFault → Result (List A) ReadFault
after xs read = read >>= λ ys. Ok (xs ++ ys)

one_read : {A : Type 0} (read : Result A ReadFault) (rest : Result (List A) ReadFault) (xs : List A) → after xs (read >>= λ x. rest >>= λ ys. Ok (x ∷ ys)) ≡ (read >>= λ x. after (xs ++ x ∷ []) rest)
one_read (Ok x) (Ok ys) xs = ap Ok (sym (append_assoc xs (x ∷ []) ys))
one_read (Ok x) (Err e) xs = refl
one_read (Err e) rest xs = refl

-- ---- items

pub item_read : {A : Type 0} (f : Data → Result A ReadFault) (xs : List A) (vs : List Value) (n : ℕ) (v : Value) → n < length vs → v ≡ get_or vs n v
    → after xs (each_item f (items_view (drop n vs))) ≡ (f (view v) >>= λ x. after (xs ++ x ∷ []) (each_item f (items_view (drop (n + 1) vs))))
unfolding each_item
item_read f xs vs n v h is = ap (λ us. after xs (each_item f (items_view us))) (rest_from vs n v h is) ∙ one_read (f (view v)) (each_item f (items_view (drop (n + 1) vs))) xs

pub all_items_read : {A : Type 0} (f : Data → Result A ReadFault) (xs : List A) → after xs (each_item f no_items) ≡ Ok xs
unfolding each_item
all_items_read f xs = ap Ok (append-nil xs)

-- ---- members

pub member_read : {A : Type 0} (f : List ℕ → Data → Result A ReadFault) (xs : List A) (e : String Global × Value) (es : List (String Global × Value))
    → after xs (each_member f (members_view (e ∷ es))) ≡ (f (string_bytes e.0) (view e.1) >>= λ x. after (xs ++ x ∷ []) (each_member f (members_view es)))
unfolding each_member
member_read f xs e es = one_read (f (string_bytes e.0) (view e.1)) (each_member f (members_view es)) xs

pub all_members_read : {A : Type 0} (f : List ℕ → Data → Result A ReadFault) (xs : List A) → after xs (each_member f no_members) ≡ Ok xs
unfolding each_member
all_members_read f xs = ap Ok (append-nil xs)
