-- A task is followed exactly where one that the branch's value names is that task, or reaches it.
use Rattle.std.proofs.Common.{◌≡◌, ◌⊎◌, inl, inr, ℕ, ℤ, zero, suc, ◌<◌, ◌≤◌, ◌==◌, Bool, true, false, ◌&&◌, ◌||◌, List, [], ◌∷◌, length, get_or, position, nat_lt, cond, Option, None, Some, refl, sym, ap, ◌∙◌, subst, arith}
use Rattle.std.specs.List.{Any, list_any, filter_map, cons_option, position_or_len}
use Rattle.std.specs.Str.{bytes_eq}
use Rattle.std.proofs.lemmas.List.Folds.{Any-from_list_any, list_any-from_Any}
use Rattle.std.proofs.lemmas.List.Quantifiers.{position-Some}
use Rattle.std.proofs.lemmas.List.Sums.{fails_before_first}
use Rattle.std.proofs.lemmas.Bool.{cases_lt, ltb-false}
use Rattle.std.proofs.lemmas.Slice.Eq.{bytes_eq-Decides}
use Rattle.bf_value.specs.declared.xval.Xval.{Xval}
use Rattle.bf_value.specs.declared.xval.Xval.TheVariants.{Text, List as ListOf, Flag, Int, Nil}
use Rattle.bf_value.specs.Plain.{Plains}
use Rattle.bf_value.specs.Views.{xvals_of}
use Rattle.bf_graph.specs.Edges.{upstreams_of, IsUpstream}
use Rattle.bf_graph.specs.Ranks.{Ranking}
use Rattle.bf_graph.specs.Reach.{IsPath, Reaches}
use Rattle.bf_value.specs.Distinct.{AreDistinct}
use Rattle.bf_graph.specs.Shape.{Shape}
use Rattle.bf_graph.proofs.PathLemmas.{task_within}
use Rattle.bf_rule.specs.Branches.{name_in, names_in, id_of, is_direct_downstream_in, is_named, followed_to, followed_at, IsNamedOrReached}
use Rattle.bf_rule.specs.inner.Branches.{followed_by_name}

-- ---- booleans

or_right : (a b : Bool) → b ≡ true → (a || b) ≡ true
or_right true b e = refl
or_right false b e = e

or_false : (b : Bool) → (b || false) ≡ b
or_false true = refl
or_false false = refl

and_false : (b : Bool) → (b && false) ≡ false
and_false true = refl
and_false false = refl

and_left : (a b : Bool) → (a && b) ≡ true → a ≡ true
and_left true b e = refl
and_left false b e = e

and_right : (a b : Bool) → (a && b) ≡ true → b ≡ true
and_right true b e = e
and_right false b e = cc

and_both : (a b : Bool) → a ≡ true → b ≡ true → (a && b) ≡ true
and_both a b e f = rw (e, f)

same_bool : (a b : Bool) → (a ≡ true → b ≡ true) → (b ≡ true → a ≡ true) → a ≡ b
same_bool true b to from = sym (to refl)
same_bool false true to from = from refl
same_bool false false to from = refl

-- ---- positions

no_position : {X : Type 0} (p : X → Bool) (xs : List X) (d : X) → position p xs ≡ None → (k : ℕ) → k < length xs → p (get_or xs k d) ≡ false
no_position p xs d none k within = go (nat_lt (position_or_len p xs) (length xs)) refl none
  where
    go : (b : Bool) → nat_lt (position_or_len p xs) (length xs) ≡ b → cond b (Some (position_or_len p xs)) None ≡ None → p (get_or xs k d) ≡ false
    go true f same = cc
    go false f same = (let high = ltb-false (position_or_len p xs) (length xs) f in fails_before_first p xs k d (omega (arith, within, high)))

-- ---- paths

abbrev Leads : Shape → ℕ → ℕ → Type 0
Leads shape n t = (n ≡ t) ⊎ Reaches shape.upstreams n t

lead_on : (shape : Shape) (n u t : ℕ) → IsUpstream shape.upstreams u t → Leads shape n u → Reaches shape.upstreams n t
lead_on shape n u t up (inl same) = (0, (u, up, same))
lead_on shape n u t up (inr (m, path)) = (suc m, (u, up, path))

path_bounded : (ups : List (List ℕ)) (r : Ranking ups) (a m t : ℕ) → IsPath ups a m t → m ≤ r.rank t
path_bounded ups r a zero t p = omega arith
path_bounded ups r a (suc m) t (u, up, p) = omega (arith, path_bounded ups r a m u p, r.rises t u up)

-- ---- followed

module _ (shape : Shape) (branch : ℕ) (value : Option Xval) where
  abbrev IsLed : ℕ → Type 0
  IsLed t = IsNamedOrReached shape branch value t

  to_led : (depth t : ℕ) → followed_to shape branch value depth t ≡ true → IsLed t
  to_led zero t e = (t, e, inl refl)
  to_led (suc depth) t e = go (to_led depth) (is_named shape branch value t) refl e
    where
      us : List ℕ
      us = upstreams_of shape.upstreams t

      above : ((u : ℕ) → followed_to shape branch value depth u ≡ true → IsLed u) → Any (λ u. followed_to shape branch value depth u ≡ true) us → IsLed t
      above led (k, u, within, at, there) = let one = led u there in (one.0, one.1, inr (lead_on shape one.0 u t (k, within, at) one.2))

      go : ((u : ℕ) → followed_to shape branch value depth u ≡ true → IsLed u) → (b : Bool) → is_named shape branch value t ≡ b → (b || list_any (followed_to shape branch value depth) us) ≡ true → IsLed t
      go led true is e = (t, is, inl refl)
      go led false is e = above led (Any-from_list_any (followed_to shape branch value depth) us e)

  from_path : (depth t n m : ℕ) → is_named shape branch value n ≡ true → IsPath shape.upstreams n m t → m ≤ depth → followed_to shape branch value depth t ≡ true
  from_path zero t n zero named same l = subst (λ (x : ℕ). is_named shape branch value x ≡ true) same named
  from_path zero t n (suc m) named path l = absurd (omega (arith, l))
  from_path (suc depth) t n zero named same l = rw (subst (λ (x : ℕ). is_named shape branch value x ≡ true) same named)
  from_path (suc depth) t n (suc m) named (u, (k, within, at), path) l =
      or_right (is_named shape branch value t) _
      (list_any-from_Any (followed_to shape branch value depth) (upstreams_of shape.upstreams t) (k, u, within, at, from_path depth u n m named path (omega arith)))

  pub followed_led : (t : ℕ) → followed_at shape branch value t ≡ true → IsLed t
  unfolding followed_at
  followed_led t e = to_led (length shape.ids) t e

  pub led_followed : Ranking shape.upstreams → length shape.ids ≡ length shape.upstreams → (t n : ℕ) → is_named shape branch value n ≡ true → Leads shape n t → followed_at shape branch value t ≡ true
  unfolding followed_at
  led_followed r same t n named (inl here) = from_path (length shape.ids) t n zero named here (omega arith)
  led_followed r same t n named (inr (m, path)) =
      from_path (length shape.ids) t n (suc m) named path (omega (arith, path_bounded shape.upstreams r n (suc m) t path, r.bounded t, same))

  -- a value that names nothing follows nothing
  pub nothing_followed : names_in value ≡ [] → (t : ℕ) → followed_at shape branch value t ≡ false
  nothing_followed none t = same_bool (followed_at shape branch value t) false (λ e. let led = followed_led t e in
      sym (ap (λ names. is_direct_downstream_in shape branch led.0 && list_any (λ name. bytes_eq name (id_of shape led.0)) names) none ∙ and_false _) ∙ led.1) (λ e. absurd (cc))

-- neither a text nor a list
pub no_text_follows_nothing : (shape : Shape) (branch t : ℕ) (v : Xval) → ((b : Bool) × (v ≡ Flag b)) ⊎ (((n : ℤ) × (v ≡ Int n)) ⊎ (v ≡ Nil)) → false ≡ followed_at shape branch (Some v) t
no_text_follows_nothing shape branch t v (inl (b, is)) = sym (ap (λ (v : Xval). followed_at shape branch (Some v) t) is ∙ nothing_followed shape branch (Some (Flag b)) refl t)
no_text_follows_nothing shape branch t v (inr (inl (n, is))) = sym (ap (λ (v : Xval). followed_at shape branch (Some v) t) is ∙ nothing_followed shape branch (Some (Int n)) refl t)
no_text_follows_nothing shape branch t v (inr (inr is)) = sym (ap (λ (v : Xval). followed_at shape branch (Some v) t) is ∙ nothing_followed shape branch (Some Nil) refl t)

-- ---- one name

module _ (shape : Shape) (r : Ranking shape.upstreams) (same : length shape.ids ≡ length shape.upstreams) (branch t : ℕ) where
  abbrev is_direct : ℕ → Bool
  is_direct n = is_direct_downstream_in shape branch n

  -- what is named is a task
  named_within : (value : Option Xval) (n : ℕ) → is_named shape branch value n ≡ true → n < length shape.ids
  named_within value n named =
      let (k, u, within, at, is) = Any-from_list_any (λ u. u == branch) (upstreams_of shape.upstreams n) (and_left (is_direct n) _ named) in
      let l : n < length shape.upstreams = task_within shape.upstreams u n (k, within, at) in
      omega (arith, l, same)

  has_name : (name : List ℕ) (n : ℕ) → is_named shape branch (Some (Text name)) n ≡ true → bytes_eq name (id_of shape n) ≡ true
  has_name name n named = sym (or_false _) ∙ and_right (is_direct n) _ named

  names : (name : List ℕ) (n : ℕ) → is_direct n ≡ true → bytes_eq name (id_of shape n) ≡ true → is_named shape branch (Some (Text name)) n ≡ true
  names name n direct is = rw (direct, is)

  pub unknown_name : (name : List ℕ) → position (bytes_eq name) shape.ids ≡ None → followed_at shape branch (Some (Text name)) t ≡ false
  unknown_name name none = same_bool (followed_at shape branch (Some (Text name)) t) false (λ e.
      let led = followed_led shape branch (Some (Text name)) t e in
      let l = named_within (Some (Text name)) led.0 led.1 in
      sym (sym (has_name name led.0 led.1) ∙ no_position (bytes_eq name) shape.ids [] none led.0 l)) (λ e. absurd (cc))

  one_named : AreDistinct shape.ids → (name : List ℕ) (n m : ℕ) → position (bytes_eq name) shape.ids ≡ Some n → m < length shape.ids → bytes_eq name (id_of shape m) ≡ true → m ≡ n
  one_named distinct name n m at l is = elim (cases_lt m n) [
    | inl low ↦ absurd (let f : true ≡ false = sym is ∙ (position-Some (bytes_eq name) shape.ids n [] at).2 m low in cc)
    | inr high ↦ elim (cases_lt n m) [
      | inl above ↦ absurd (distinct n m [] above l (sym ((bytes_eq-Decides name (id_of shape n)).0 (position-Some (bytes_eq name) shape.ids n [] at).1) ∙ (bytes_eq-Decides name (id_of shape m)).0 is))
      | inr equal ↦ omega (arith, high, equal)
    ]
  ]

  -- a name follows the task by the one task of that name
  pub known_name : AreDistinct shape.ids → (name : List ℕ) (n : ℕ) → position (bytes_eq name) shape.ids ≡ Some n → (way : Bool) → (way ≡ true → Leads shape n t) → (Leads shape n t → way ≡ true) →
      (is_direct n && way) ≡ followed_at shape branch (Some (Text name)) t
  known_name distinct name n at way to from = same_bool (is_direct n && way) (followed_at shape branch (Some (Text name)) t)
      (λ e. led_followed shape branch (Some (Text name)) r same t n (names name n (and_left (is_direct n) way e) (position-Some (bytes_eq name) shape.ids n [] at).1) (to (and_right (is_direct n) way e)))
      (λ e.
      let led = followed_led shape branch (Some (Text name)) t e in
      let here : led.0 ≡ n = one_named distinct name n led.0 at (named_within (Some (Text name)) led.0 led.1) (has_name name led.0 led.1) in
      and_both (is_direct n) way (ap is_direct (sym here) ∙ and_left (is_direct led.0) _ led.1) (from (subst (λ (x : ℕ). Leads shape x t) here led.2)))

  pub other_name : AreDistinct shape.ids → (name : List ℕ) (n : ℕ) → position (bytes_eq name) shape.ids ≡ Some n → is_direct n ≡ false → followed_at shape branch (Some (Text name)) t ≡ false
  other_name distinct name n at not_direct = same_bool (followed_at shape branch (Some (Text name)) t) false (λ e.
      let led = followed_led shape branch (Some (Text name)) t e in
      let here : led.0 ≡ n = one_named distinct name n led.0 at (named_within (Some (Text name)) led.0 led.1) (has_name name led.0 led.1) in
      sym not_direct ∙ ap is_direct (sym here) ∙ and_left (is_direct led.0) _ led.1) (λ e. absurd (cc))

  -- ---- a list of names

  -- one of the names of a list follows the task
  any_name : (n : ℕ) → is_direct n ≡ true → Leads shape n t → (vs : List Xval) → list_any (λ name. bytes_eq name (id_of shape n)) (filter_map name_in vs) ≡ true →
      list_any (λ v. followed_by_name shape branch t (name_in v)) vs ≡ true
  any_name n direct leads [] e = cc
  any_name n direct leads (v ∷ vs) e = go (any_name n direct leads vs) (name_in v) refl
    where
      Rest : Type 0
      Rest = list_any (λ name. bytes_eq name (id_of shape n)) (filter_map name_in vs) ≡ true → list_any (λ v. followed_by_name shape branch t (name_in v)) vs ≡ true

      split : Rest → (name : List ℕ) → name_in v ≡ Some name → (b : Bool) → bytes_eq name (id_of shape n) ≡ b → (b || list_any (λ name. bytes_eq name (id_of shape n)) (filter_map name_in vs)) ≡ true →
          (followed_by_name shape branch t (name_in v) || list_any (λ v. followed_by_name shape branch t (name_in v)) vs) ≡ true
      split rest name is true eq e =
          let here : followed_by_name shape branch t (name_in v) ≡ true =
          ap (followed_by_name shape branch t) is ∙ led_followed shape branch (Some (Text name)) r same t n (names name n direct eq) leads in
          ap (λ b. b || list_any (λ v. followed_by_name shape branch t (name_in v)) vs) here
      split rest name is false eq e = or_right (followed_by_name shape branch t (name_in v)) _ (rest e)

      go : Rest → (o : Option (List ℕ)) → name_in v ≡ o → (followed_by_name shape branch t (name_in v) || list_any (λ v. followed_by_name shape branch t (name_in v)) vs) ≡ true
      go rest None is = or_right (followed_by_name shape branch t (name_in v)) _ (rest (sym (ap (λ o. list_any (λ name. bytes_eq name (id_of shape n)) (cons_option o (filter_map name_in vs))) is) ∙ e))
      go rest (Some name) is =
          let here : (bytes_eq name (id_of shape n) || list_any (λ name. bytes_eq name (id_of shape n)) (filter_map name_in vs)) ≡ true =
          sym (ap (λ o. list_any (λ name. bytes_eq name (id_of shape n)) (cons_option o (filter_map name_in vs))) is) ∙ e in
          split rest name is (bytes_eq name (id_of shape n)) refl here

  -- what one of the names follows, the list of them follows
  name_of_list : (vs : List Xval) → list_any (λ v. followed_by_name shape branch t (name_in v)) vs ≡ true →
      (name : List ℕ) × (followed_at shape branch (Some (Text name)) t ≡ true) × ((p : List ℕ → Bool) → p name ≡ true → list_any p (filter_map name_in vs) ≡ true)
  name_of_list [] e = cc
  name_of_list (v ∷ vs) e = go (name_of_list vs) (name_in v) refl (followed_by_name shape branch t (name_in v)) refl e
    where
      IsOne : List (List ℕ) → Type 0
      IsOne found = (name : List ℕ) × (followed_at shape branch (Some (Text name)) t ≡ true) × ((p : List ℕ → Bool) → p name ≡ true → list_any p found ≡ true)

      Rest : Type 0
      Rest = list_any (λ v. followed_by_name shape branch t (name_in v)) vs ≡ true → IsOne (filter_map name_in vs)

      go : Rest → (o : Option (List ℕ)) → name_in v ≡ o → (b : Bool) → followed_by_name shape branch t (name_in v) ≡ b → (b || list_any (λ v. followed_by_name shape branch t (name_in v)) vs) ≡ true → IsOne (cons_option (name_in v) (filter_map name_in vs))
      go rest None is true f e = absurd (let g : false ≡ true = sym (ap (followed_by_name shape branch t) is) ∙ f in cc)
      go rest None is false f e =
          let later = rest e in
          (later.0, later.1, λ p h. ap (λ o. list_any p (cons_option o (filter_map name_in vs))) is ∙ later.2 p h)
      go rest (Some name) is true f e =
          (name, sym (ap (followed_by_name shape branch t) is) ∙ f, λ p h. ap (λ o. list_any p (cons_option o (filter_map name_in vs))) is ∙ ap (λ b. b || list_any p (filter_map name_in vs)) h)
      go rest (Some name) is false f e =
          let later = rest e in
          (later.0, later.1, λ p h. ap (λ o. list_any p (cons_option o (filter_map name_in vs))) is ∙ or_right (p name) _ (later.2 p h))

  pub list_follows : (list : Plains) → list_any (λ v. followed_by_name shape branch t (name_in v)) (xvals_of list) ≡ followed_at shape branch (Some (ListOf list)) t
  list_follows list = same_bool (list_any (λ v. followed_by_name shape branch t (name_in v)) (xvals_of list)) (followed_at shape branch (Some (ListOf list)) t)
      (λ e.
      let one = name_of_list (xvals_of list) e in
      let led = followed_led shape branch (Some (Text one.0)) t one.1 in
      led_followed shape branch (Some (ListOf list)) r same t led.0
      (and_both (is_direct led.0) _ (and_left (is_direct led.0) _ led.1) (one.2 (λ name. bytes_eq name (id_of shape led.0)) (has_name one.0 led.0 led.1))) led.2)
      (λ e.
      let led = followed_led shape branch (Some (ListOf list)) t e in
      any_name led.0 (and_left (is_direct led.0) _ led.1) led.2 (xvals_of list) (and_right (is_direct led.0) _ led.1))
