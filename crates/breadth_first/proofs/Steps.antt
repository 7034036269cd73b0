-- One choice, one state and one level more.
use Rattle.std.proofs.Common.{◌≡◌, ℕ, zero, suc, ◌+◌, ◌*◌, ◌^◌, ◌<◌, ◌≤◌, ◌⊎◌, inl, inr, Bool, true, false, if◌then◌else◌, List, [], ◌∷◌, ◌++◌, length, map, slice_get, Option, Some, None, All, IfSome, refl, sym, ap, ◌∙◌, subst, arith}
use Rattle.std.proofs.Math.Nat.{mul-le-mul_right}
use Rattle.std.proofs.lemmas.Bool.{cases_lt}
use Rattle.std.proofs.lemmas.List.{length-map, length_push}
use Rattle.std.proofs.lemmas.Option.{slice_get_within, same_Some, slice_get-map}
use Rattle.std.specs.List.{list_any}
use Rattle.std.specs.Option.{option_map}
use Rattle.indexmap.specs.IndexSet.{insert_key}
use Rattle.breadth_first.specs.System.{System, IsEquality}
use Rattle.breadth_first.specs.Kept.{Keeps}
use Rattle.breadth_first.specs.Order.{trying, opened, reached}
use Rattle.breadth_first.specs.Answer.{before}
use Rattle.breadth_first.specs.Front.{Front}
use Rattle.breadth_first.specs.Origins.{IsOrigin, AreOrigins}
use Rattle.breadth_first.specs.Progress.{Searched, AreSafe, IsAdded, Adds, IsFull, Tries, Steps, Expands, GoesOn, AreWithin, Ends, Begun, IsEdge, AreEdges, KeepsEdges}
use Rattle.breadth_first.specs.declared.origins.Origin.{Origin}
use Rattle.breadth_first.specs.declared.search.Added.{Added}
use Rattle.breadth_first.specs.declared.search.Added.TheVariants.{At, Violates, Full}
use Rattle.breadth_first.specs.declared.search.Stop.{Stop}
use Rattle.breadth_first.specs.declared.search.Stop.TheVariants.{Bad, NoRoom}
use Rattle.breadth_first.specs.declared.levels.End.TheVariants.{AllReached}
use Rattle.breadth_first.specs.declared.answer.Limits.{Limits}
use Rattle.breadth_first.proofs.Fronts.{front-push, front-trans, front-length, front-get, front-back, front-full, slice_get-last, slice_get-some}
use Rattle.breadth_first.proofs.Order.{cases, trying-suc, trying-front, trying-upto, opened-suc, opened-upto, opened-start, reached-suc, reached-start, reached-step, insert-there, insert-new, insert-front}
use Rattle.breadth_first.proofs.Keys.{keeps-map, keeps-all}

module _ {S : Type 0} (g : System S) (law : IsEquality g.same) where
  -- a state that is added by a choice of the state that is opened has its origin
  module _ (at choice : ℕ) (parent : S) (state : slice_get (opened g at) at ≡ Some parent) (within : choice < g.choices)
      (states : List S) (kept : states ≡ trying g (opened g at) parent choice) where
    begins : Front (opened g at) states
    begins = subst (Front (opened g at)) (sym kept) (trying-front g law (opened g at) parent choice)

    next-kept : (news : List S) → news ≡ insert_key g.same states (g.next parent choice) → news ≡ trying g (opened g at) parent (suc choice)
    next-kept news are = are ∙ ap (λ l. insert_key g.same l (g.next parent choice)) kept ∙ sym (trying-suc g law (opened g at) parent choice)

    next-front : (news : List S) → news ≡ insert_key g.same states (g.next parent choice) → Front news (opened g (suc at))
    next-front news are =
        subst (λ l. Front l (opened g (suc at))) (sym (next-kept news are))
        (subst (Front (trying g (opened g at) parent (suc choice))) (sym (opened-suc g law at parent state)) (trying-upto g law (opened g at) parent (suc choice) g.choices within))

    came-more : (news : List S) → IsAdded g states (g.next parent choice) news → (origins told : List Origin) (origin : Origin) → origin.parent ≡ at → origin.choice ≡ choice → told ≡ origins ++ origin ∷ [] → AreOrigins g states origins → AreOrigins g news told
    came-more news (new, are) origins told origin isat ischoice tell all = record {
      many = ap length tell ∙ length_push origins origin ∙ ap (λ n. n + 1) all.many ∙ sym (length_push states (g.next parent choice)) ∙ sym (ap length are);
      start = front-get front 0 g.start all.start;
      each = λ i o positive there. by i o positive (subst (λ l. slice_get l i ≡ Some o) tell there) (cases_lt i (length origins));
    }
      where
        front : Front states news
        front = subst (Front states) (sym are) (front-push states (g.next parent choice))

        inserted : news ≡ insert_key g.same states (g.next parent choice)
        inserted = are ∙ sym (insert-new g law states (g.next parent choice) new)

        old : (i : ℕ) (o : Origin) → IsOrigin g states i o → IsOrigin g news i o
        old i o is = record {
          parent = is.parent;
          at = front-get front o.parent is.parent is.at;
          choice = is.choice;
          leads = front-get front i (g.next is.parent o.choice) is.leads;
          earlier = is.earlier;
          from = is.from;
          to = is.to;
          turn = is.turn;
          place = is.place;
          stands = is.stands;
        }

        leads : (i : ℕ) → i ≡ length states → slice_get news i ≡ Some (g.next parent origin.choice)
        leads i e = subst (λ n. slice_get news n ≡ Some (g.next parent origin.choice)) (sym e) (subst (λ n. slice_get news (length states) ≡ Some (g.next parent n)) (sym ischoice) (subst (λ l. slice_get l (length states) ≡ Some (g.next parent choice)) (sym are) (slice_get-last states (g.next parent choice))))

        last : (i : ℕ) → i ≡ length states → IsOrigin g news i origin
        last i e = record {
          parent = parent;
          at = subst (λ n. slice_get news n ≡ Some parent) (sym isat) (front-get front at parent (front-get begins at parent state));
          choice = subst (λ n. n < g.choices) (sym ischoice) within;
          leads = leads i e;
          earlier = omega (arith, slice_get_within states at parent (front-get begins at parent state));
          from = subst (λ n. length (opened g n) ≤ i) (sym isat) (omega (arith, front-length begins));
          to = subst (λ n. i < length (opened g (suc n))) (sym isat) (omega (arith, front-length (next-front news inserted), ap length are, length_push states (g.next parent choice)));
          turn = subst (λ n. slice_get (opened g n) n ≡ Some parent) (sym isat) state;
          place = e ∙ ap length kept ∙ ap (λ n. length (trying g (opened g n) parent choice)) (sym isat) ∙ ap (λ n. length (trying g (opened g origin.parent) parent n)) (sym ischoice);
          stands = subst (λ n. slice_get (opened g (suc n)) i ≡ Some (g.next parent origin.choice)) (sym isat) (front-get (next-front news inserted) i (g.next parent origin.choice) (leads i e));
        }

        by : (i : ℕ) (o : Origin) → 0 < i → slice_get (origins ++ origin ∷ []) i ≡ Some o → (i < length origins) ⊎ (length origins ≤ i) → IsOrigin g news i o
        by i o positive there (inl l) = old i o (all.each i o positive (front-back (front-push origins origin) i o l there))
        by i o positive there (inr l) =
            let inside = slice_get_within (origins ++ origin ∷ []) i o there in
            let e : i ≡ length origins = omega (arith, inside, length_push origins origin) in
            let same : o ≡ origin = same_Some o origin (sym (subst (λ n. slice_get (origins ++ origin ∷ []) n ≡ Some o) e there) ∙ slice_get-last origins origin) in
            subst (λ t. IsOrigin g news i t) (sym same) (last i (e ∙ all.many))

    -- what became of the state to which the choice leads
    module _ {K : Type 0} (held : K → Type 0) (means : K → S) (limit : Option ℕ) (keys : List K) (origins told : List Origin) (origin : Origin)
        (isat : origin.parent ≡ at) (ischoice : origin.choice ≡ choice) (safe : AreSafe g states) (before : AreOrigins g states origins)
        (all : All held keys) (few : length keys ≤ 2 ^ 32) (room : IfSome limit (λ n. length keys ≤ n)) where
      pub steps : (a : Added) → Adds g limit states (g.next parent choice) (map means keys) origins origin told a → Steps g held means limit at choice keys told a
      steps (At i) is = record {
        searched = record { all = all; came = by (cases (list_any (g.same (g.next parent choice)) states)); few = few; room = room };
        parent = parent;
        state = state;
        kept = next-kept (map means keys) is.states;
        safe = is.safe safe;
      }
        where
          by : (list_any (g.same (g.next parent choice)) states ≡ true) ⊎ (list_any (g.same (g.next parent choice)) states ≡ false) → AreOrigins g (map means keys) told
          by (inl h) =
              let same : map means keys ≡ states = is.states ∙ insert-there g law states (g.next parent choice) h in
              let tell : told ≡ origins = is.came ∙ ap (λ b. if b then origins else origins ++ origin ∷ []) h in
              subst (λ l. AreOrigins g l told) (sym same) (subst (AreOrigins g states) (sym tell) before)
          by (inr h) =
              came-more (map means keys) (h, is.states ∙ insert-new g law states (g.next parent choice) h) origins told origin isat ischoice
              (is.came ∙ ap (λ b. if b then origins else origins ++ origin ∷ []) h) before
      steps (Violates property) ((new, are), bad, tell) = (
        record { all = all; came = came-more (map means keys) (new, are) origins told origin isat ischoice tell before; few = few; room = room },
        next-front (map means keys) (are ∙ sym (insert-new g law states (g.next parent choice) new)),
        record { others = states; last = g.next parent choice; are = are; safe = safe; violates = bad },
      )
      steps Full (same, new, met, tell) = (
        record { all = all; came = subst (λ l. AreOrigins g l told) (sym same) (subst (AreOrigins g states) (sym tell) before); few = few; room = room },
        record {
          met = met ∙ ap (λ l. Some (length l)) (sym same);
          parent = parent;
          state = state;
          within = within;
          kept = same ∙ kept;
          new = subst (λ l. list_any (g.same (g.next parent choice)) l ≡ false) (sym same) new;
          safe = subst (AreSafe g) (sym same) safe;
        },
      )

  -- what became of the state, as the calls of a loop say it: the space was asked for the next state, and that was kept
  pub adds-taken : {K : Type 0} {held holds : K → Type 0} {means stands : K → S} {h k : System S} (has : K → Type 0) (is : K → S) (limit : Option ℕ) (at choice : ℕ) (keys news : List K) (origins told : List Origin) (origin : Origin)
      → h ≡ g → (tries : Tries g held means limit at choice keys origins)
      → Keeps h held means k holds stands → (from key : K) → slice_get keys at ≡ Some from → stands key ≡ h.next (means from) choice
      → (a : Added) → Adds k limit (map stands keys) (stands key) (map is news) origins origin told a → Adds g limit (map means keys) (g.next tries.parent choice) (map is news) origins origin told a
  adds-taken {K} {held} {holds} {means} {stands} {h} {k} has is limit at choice keys news origins told origin same tries keeps from key there leads a adds =
      let here : k ≡ g = keeps.system ∙ same in
      let before : map stands keys ≡ map means keys = keeps-map keeps keys tries.searched.all in
      let turn : slice_get (map means keys) at ≡ Some tries.parent = subst (λ l. slice_get l at ≡ Some tries.parent) (sym tries.kept) (front-get (trying-front g law (opened g at) tries.parent choice) at tries.parent tries.state) in
      let parent : means from ≡ tries.parent = same_Some (means from) tries.parent (sym (slice_get-map means keys at ∙ ap (option_map means) there) ∙ turn) in
      let next : stands key ≡ g.next tries.parent choice = leads ∙ ap (λ t. t.next (means from) choice) same ∙ ap (λ s. g.next s choice) parent in
      let first = subst (λ t. Adds t limit (map stands keys) (stands key) (map is news) origins origin told a) here adds in
      let second = subst (λ l. Adds g limit l (stands key) (map is news) origins origin told a) before first in
      subst (λ s. Adds g limit (map means keys) s (map is news) origins origin told a) next second

  -- and so one choice more was tried
  pub step-taken : {K : Type 0} {held holds : K → Type 0} {means stands : K → S} {h k : System S} (has : K → Type 0) (is : K → S) (limit : Option ℕ) (at choice : ℕ) (keys news : List K) (origins told : List Origin) (origin : Origin)
      → origin.parent ≡ at → origin.choice ≡ choice → h ≡ g → Tries g held means limit at choice keys origins → choice < g.choices
      → Keeps h held means k holds stands → (from key : K) → slice_get keys at ≡ Some from → stands key ≡ h.next (means from) choice
      → All has news → length news ≤ 2 ^ 32 → IfSome limit (λ n. length news ≤ n)
      → (a : Added) → Adds k limit (map stands keys) (stands key) (map is news) origins origin told a → Steps g has is limit at choice news told a
  step-taken {K} {held} {holds} {means} {stands} {h} {k} has is limit at choice keys news origins told origin isat ischoice same tries within keeps from key there leads all few room a adds =
      steps at choice tries.parent tries.state within (map means keys) tries.kept has is limit news origins told origin isat ischoice tries.safe tries.searched.came all few room a
      (adds-taken has is limit at choice keys news origins told origin same tries keeps from key there leads a adds)

  -- the last choice
  pub tried-all : {K : Type 0} {held : K → Type 0} {means : K → S} (limit : Option ℕ) (at choice : ℕ) (keys : List K) (origins : List Origin) → choice ≡ g.choices → Tries g held means limit at choice keys origins → Expands g limit at (map means keys) None
  tried-all {means = means} limit at choice keys origins e tries =
      (tries.kept ∙ ap (trying g (opened g at) tries.parent) e ∙ sym (opened-suc g law at tries.parent tries.state), tries.safe)

  -- the first
  pub tries-none : {K : Type 0} {held : K → Type 0} {means : K → S} (limit : Option ℕ) (at : ℕ) (keys : List K) (origins : List Origin) → Searched g held means limit keys origins → at < length keys → map means keys ≡ opened g at → AreSafe g (map means keys) → Tries g held means limit at 0 keys origins
  tries-none {means = means} limit at keys origins searched l are safe =
      let s = slice_get-some (opened g at) at (omega (arith, ap length are, length-map keys means)) in
      record { searched = searched; parent = s.0; state = s.1; kept = are; safe = safe }

  pub tries-index : {K : Type 0} {held : K → Type 0} {means : K → S} (limit : Option ℕ) (at choice : ℕ) (keys : List K) (origins : List Origin) → Tries g held means limit at choice keys origins → at < length keys
  tries-index {means = means} limit at choice keys origins tries =
      omega (arith, slice_get_within (opened g at) at tries.parent tries.state, front-length (trying-front g law (opened g at) tries.parent choice), ap length tries.kept, length-map keys means)

  -- the states within `d` choices are those that the opening of those within fewer brings
  pub reached-before : (d : ℕ) → reached g d ≡ opened g (before g d)
  reached-before zero = reached-start g law ∙ sym (opened-start g law)
  reached-before (suc d) = reached-suc g law d

  pub before-within : (d : ℕ) → before g d ≤ length (reached g d)
  before-within zero = omega arith
  before-within (suc d) = front-length (reached-step g law d)

  -- a state whose choices brought the end is one of the level
  pub goes_on-stop : (limit : Option ℕ) (d at : ℕ) (states : List S) (stop : Stop) → before g d ≤ at → at < length (reached g d) → Expands g limit at states (Some stop) → GoesOn g limit d states (Some stop)
  goes_on-stop limit d at states (Bad property) from to (front, bad) =
      (subst (Front states) (sym (reached-suc g law d)) (front-trans front (opened-upto g law (suc at) (length (reached g d)) to)), bad)
  goes_on-stop limit d at states (NoRoom i choice) from to (same, full) =
      let below : before g d ≤ i = omega (arith, same) in
      let above : i < length (reached g d) = omega (arith, same) in
      (below, above, subst (λ n. IsFull g limit n choice states) (sym same) full)

  pub goes_on-none : (limit : Option ℕ) (d at : ℕ) (states : List S) → at ≡ length (reached g d) → states ≡ opened g at → AreSafe g states → GoesOn g limit d states None
  goes_on-none limit d at states e are safe = (are ∙ ap (opened g) e ∙ sym (reached-suc g law d), safe)

  -- a level that brought states, and one that didn't
  pub within-more : (limit : Option ℕ) (d : ℕ) (states news : List S) → AreWithin g d states → GoesOn g limit d news None → (length news ≡ length states → ⊥) → AreWithin g (suc d) news
  within-more limit d states news is (are, safe) more = record {
    are = are;
    safe = safe;
    last = omega (arith, front-length (reached-step g law d), ap length are, ap length is.are, more);
  }

  pub all-reached : (limits : Limits) (d : ℕ) (states news : List S) → AreWithin g d states → GoesOn g limits.states d news None → length news ≡ length states → IfSome limits.depth (λ n. d ≤ n) → Ends g limits news (AllReached d)
  all-reached limits d states news is (are, safe) same below =
      let still : reached g (suc d) ≡ reached g d = front-full (reached-step g law d) (omega (arith, ap length are, ap length is.are, same)) in
      (record { are = are ∙ still; safe = safe; last = omega (arith, is.last, same) }, omega (arith, ap length are), below)

  -- the start alone
  pub within-start : (states : List S) → states ≡ g.start ∷ [] → AreSafe g states → AreWithin g 0 states
  within-start states are safe = record { are = are ∙ sym (reached-start g law); safe = safe; last = omega (arith, ap length are) }

-- a limit that wasn't met
pub below-limit : (limit : Option ℕ) (n : ℕ) → IfSome limit (λ m. n ≤ m) → (limit ≡ Some n → ⊥) → IfSome limit (λ m. n < m)
below-limit None n l not = l
below-limit (Some m) n l not =
    let apart : m ≡ n → ⊥ = λ e. not (ap Some e) in
    omega arith

-- what a system is known by
-- a limit that was met
pub limit-within : (limit : Option ℕ) (n : ℕ) → limit ≡ Some n → IfSome limit (λ m. n ≤ m)
limit-within limit n e = subst (λ o. IfSome o (λ m. n ≤ m)) (sym e) (omega arith)

pub searched-same : {K S : Type 0} {g h : System S} {held : K → Type 0} {means : K → S} {limit : Option ℕ} {keys : List K} {origins : List Origin} → h ≡ g → Searched g held means limit keys origins → Searched h held means limit keys origins
searched-same {held = held} {means} {limit} {keys} {origins} e s = subst (λ t. Searched t held means limit keys origins) (sym e) s

module _ {S : Type 0} (g : System S) (law : IsEquality g.same) where
  -- each state of a level is there when its turn comes
  pub level-turn : (d at : ℕ) → before g d ≤ at → at < length (reached g d) → at < length (opened g at)
  level-turn d at from to = omega (arith, front-length (opened-upto g law (before g d) at from), ap length (reached-before g law d))

pub opened-same : {S : Type 0} {g h : System S} (states : List S) (at : ℕ) → h ≡ g → states ≡ opened g at → states ≡ opened h at
opened-same states at e are = subst (λ t. states ≡ opened t at) (sym e) are

pub safe-same : {S : Type 0} {g h : System S} (states : List S) → h ≡ g → AreSafe g states → AreSafe h states
safe-same states e safe = subst (λ t. AreSafe t states) (sym e) safe

pub expands-same : {S : Type 0} {g h : System S} (limit : Option ℕ) (at : ℕ) (states : List S) (stop : Option Stop) → h ≡ g → Expands h limit at states stop → Expands g limit at states stop
expands-same limit at states stop e x = subst (λ t. Expands t limit at states stop) e x

pub goes_on-same : {S : Type 0} {g h : System S} (limit : Option ℕ) (d : ℕ) (states : List S) (stop : Option Stop) → h ≡ g → GoesOn h limit d states stop → GoesOn g limit d states stop
goes_on-same limit d states stop e x = subst (λ t. GoesOn t limit d states stop) e x

module _ {S : Type 0} (g : System S) where
  -- what became of the start
  pub begun : {K : Type 0} {held holds : K → Type 0} {means stands : K → S} {k : System S} (has : K → Type 0) (is : K → S) (limit : Option ℕ) (keys news : List K) (origins told : List Origin) (origin : Origin)
      → keys ≡ [] → origins ≡ [] → Keeps g held means k holds stands → (key : K) → stands key ≡ g.start
      → All has news → length news ≤ 2 ^ 32 → IfSome limit (λ n. length news ≤ n)
      → (a : Added) → Adds k limit (map stands keys) (stands key) (map is news) origins origin told a → Begun g has is limit news told a
  begun {K} {held} {holds} {means} {stands} {k} has is limit keys news origins told origin nokeys noorigins keeps key starts all few room a adds =
      let first = subst (λ t. Adds t limit (map stands keys) (stands key) (map is news) origins origin told a) keeps.system adds in
      let second = subst (λ l. Adds g limit (map stands l) (stands key) (map is news) origins origin told a) nokeys first in
      let third = subst (λ s. Adds g limit [] s (map is news) origins origin told a) starts second in
      by a (subst (λ o. Adds g limit [] g.start (map is news) o origin told a) noorigins third)
    where
      came : told ≡ origin ∷ [] → AreOrigins g (g.start ∷ []) told
      came e = record {
        many = ap length e;
        start = refl;
        each = λ i o positive at. absurd (none i o positive (subst (λ l. slice_get l i ≡ Some o) e at));
      }
        where
          none : (i : ℕ) (o : Origin) → 0 < i → slice_get (origin ∷ []) i ≡ Some o → ⊥
          none zero o positive at = omega arith
          none (suc i) o positive at = cc

      by : (a : Added) → Adds g limit [] g.start (map is news) [] origin told a → Begun g has is limit news told a
      by (At i) kept =
          (record { all = all; came = subst (λ l. AreOrigins g l told) (sym kept.states) (came kept.came); few = few; room = room }, kept.states, kept.safe (λ k d l. absurd (omega arith)))
      by (Violates property) (added, bad, tell) = bad
      by Full (same, new, met, tell) = met

-- what is kept is kept from one moment to another
pub searched-keeps : {K S : Type 0} {g h : System S} {held holds : K → Type 0} {means stands : K → S} {limit : Option ℕ} {keys : List K} {origins : List Origin}
    → Keeps g held means h holds stands → Searched g held means limit keys origins → Searched h holds stands limit keys origins
searched-keeps {g = g} {holds = holds} {means = means} {stands = stands} {limit = limit} {keys = keys} {origins = origins} keeps s =
    searched-same keeps.system (record {
      all = keeps-all keeps keys s.all;
      came = subst (λ l. AreOrigins g l origins) (sym (keeps-map keeps keys s.all)) s.came;
      few = s.few;
      room = s.room;
    })

-- an edge has one place in the list
place-same : (w a b c d : ℕ) → c < w → d < w → a * w + c ≡ b * w + d → (a ≡ b) × (c ≡ d)
place-same w a b c d l m e = (row, column)
  where
    row : a ≡ b
    row = by (cases_lt a b) (cases_lt b a)
      where
        apart : (x y u v : ℕ) → x < y → u < w → x * w + u ≡ y * w + v → ⊥
        apart x y u v k j same =
            let more : suc x * w ≤ y * w = mul-le-mul_right w k in
            omega (arith, more, same, j)

        by : (a < b) ⊎ (b ≤ a) → (b < a) ⊎ (a ≤ b) → a ≡ b
        by (inl k) _ = absurd (apart a b c d k l e)
        by (inr k) (inl j) = absurd (apart b a d c j m (sym e))
        by (inr k) (inr j) = omega arith

    column : c ≡ d
    column = omega (arith, e, ap (λ n. n * w) row)

module _ {S : Type 0} (g : System S) where
  -- no choice was tried yet
  pub edges-none : (states : List S) (keeps : Bool) (ends : List ℕ) → ends ≡ [] → KeepsEdges g states 0 keeps ends
  edges-none states keeps ends none k = record { many = ap length none; each = λ at choice l m. absurd (omega arith) }

  -- one edge more
  pub edges-more : (states news : List S) (at choice : ℕ) (parent : S) → Front states news → slice_get states at ≡ Some parent → choice < g.choices
      → (keeps keeping : Bool) (ends told : List ℕ) (i : ℕ) → KeepsEdges g states (at * g.choices + choice) keeps ends → keeping ≡ keeps → told ≡ (if keeps then ends ++ i ∷ [] else ends)
      → slice_get news i ≡ Some (g.next parent choice) → KeepsEdges g news (at * g.choices + choice + 1) keeping told
  edges-more states news at choice parent front turn within keeps keeping ends told i old same are leads k = record {
    many = ap length tell ∙ length_push ends i ∙ ap (λ n. n + 1) before.many;
    each = λ a c l m. by a c l m (cases_lt (a * g.choices + c) (at * g.choices + choice));
  }
    where
      kept : keeps ≡ true
      kept = sym same ∙ k

      before : AreEdges g states (at * g.choices + choice) ends
      before = old (sym same ∙ k)

      tell : told ≡ ends ++ i ∷ []
      tell = are ∙ ap (λ b. if b then ends ++ i ∷ [] else ends) (sym same ∙ k)

      by : (a c : ℕ) → c < g.choices → a * g.choices + c < at * g.choices + choice + 1 → (a * g.choices + c < at * g.choices + choice) ⊎ (at * g.choices + choice ≤ a * g.choices + c) → IsEdge g news told a c
      by a c l m (inl lt) =
          let e = before.each a c l lt in
          record {
            state = e.state;
            end = e.end;
            from = front-get front a e.state e.from;
            told = subst (λ t. slice_get t (a * g.choices + c) ≡ Some e.end) (sym tell) (front-get (front-push ends i) (a * g.choices + c) e.end e.told);
            to = front-get front e.end (g.next e.state c) e.to;
          }
      by a c l m (inr ge) =
          let is : a * g.choices + c ≡ at * g.choices + choice = omega arith in
          let place = place-same g.choices a at c choice l within is in
          let last : slice_get told (a * g.choices + c) ≡ Some i =
          subst (λ t. slice_get t (a * g.choices + c) ≡ Some i) (sym tell) (subst (λ n. slice_get (ends ++ i ∷ []) n ≡ Some i) (before.many ∙ sym is) (slice_get-last ends i)) in
          record {
            state = parent;
            end = i;
            from = subst (λ n. slice_get news n ≡ Some parent) (sym place.0) (front-get front at parent turn);
            told = last;
            to = subst (λ n. slice_get news i ≡ Some (g.next parent n)) (sym place.1) leads;
          }

module _ {S : Type 0} (g : System S) (law : IsEquality g.same) where
  -- the edge of a choice that was tried
  pub edges-taken : {K : Type 0} {held : K → Type 0} {means : K → S} (is : K → S) (limit : Option ℕ) (at choice : ℕ) (keys news : List K) (origins told : List Origin) (origin : Origin)
      → (tries : Tries g held means limit at choice keys origins) → choice < g.choices → (i : ℕ) → Adds g limit (map means keys) (g.next tries.parent choice) (map is news) origins origin told (At i)
      → (keeps keeping : Bool) (ends more : List ℕ) → KeepsEdges g (map means keys) (at * g.choices + choice) keeps ends → keeping ≡ keeps → more ≡ (if keeps then ends ++ i ∷ [] else ends)
      → KeepsEdges g (map is news) (at * g.choices + choice + 1) keeping more
  edges-taken {means = means} is limit at choice keys news origins told origin tries within i kept keeps keeping ends more old same are =
      edges-more g (map means keys) (map is news) at choice tries.parent
      (subst (Front (map means keys)) (sym kept.states) (insert-front g law (map means keys) (g.next tries.parent choice)))
      (subst (λ l. slice_get l at ≡ Some tries.parent) (sym tries.kept) (front-get (trying-front g law (opened g at) tries.parent choice) at tries.parent tries.state))
      within keeps keeping ends more i old same are kept.at
