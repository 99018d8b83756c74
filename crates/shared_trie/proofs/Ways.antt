-- Ways down a trie.
use Rattle.std.proofs.Common.{◌≡◌, ◌∙◌, ◌+◌, ◌≤◌, ℕ, add-one, arith, refl, subst, sym, true, false, Option, None, Some}
use Rattle.control_word.specs.declared.model.handle.Kind.TheVariants.{Owner}
use Rattle.control_block.specs.Desks.{DeskNow}
use Rattle.pointers.specs.Known.{AreOfOne, pointed}
use Rattle.pointers.specs.SiteCalls.{Loaded}
use Rattle.pointers.specs.Sites.{Site, member_site}
use Rattle.pointers.specs.declared.known.Known.{Known}
use Rattle.shared_trie.specs.Tries.{Ends, IsNoNode, Leads, is_node_at, member_at, number_at}

module _ {V : Type 0} (o : DeskNow V) where
  -- what a load of a node's member gave, by the key's number
  pub loaded_at : (key l m : ℕ) (node : Known V) (at : Site V) (found got : Option (Known V)) → m ≡ number_at key l
      → at ≡ member_site node m → Loaded o Owner at found → found ≡ got → Loaded o Owner (member_at key l node) got
  loaded_at key l m node at found got number there loads is =
      subst (λ (y : ℕ). Loaded o Owner (member_site node y) got) number
      (subst (λ (y : Site V). Loaded o Owner y got) there (subst (λ (y : Option (Known V)). Loaded o Owner at y) is loads))

  pub is_one : (root : Known V) → AreOfOne o root root
  is_one root = record { block = refl; object = refl; fields = refl }

  -- and goes on by a node
  pub leads_on : (root : Known V) (key l l' : ℕ) (node next : Known V) → Leads o root key l node
      → Loaded o Owner (member_at key l node) (Some next) → is_node_at (pointed next) ≡ true → l' ≡ l + 1
      → Leads o root key l' next
  leads_on root key l l' node next leads loads is below =
      subst (λ (y : ℕ). Leads o root key y next) (sym (below ∙ add-one l)) (node, leads, loads, is)

  -- it ends at an entry, or at nothing
  pub ends_at : (root : Known V) (key l : ℕ) (node entry : Known V) → Leads o root key l node → l ≤ 21
      → Loaded o Owner (member_at key l node) (Some entry) → is_node_at (pointed entry) ≡ false
      → Ends o root key node l (Some entry)
  ends_at root key l node entry leads most loads is =
      record { leads = leads; level = most; loads = loads; entry = is }

  pub ends_empty : (root : Known V) (key l : ℕ) (node : Known V) → Leads o root key l node → l ≤ 21
      → Loaded o Owner (member_at key l node) None → Ends o root key node l None
  ends_empty root key l node leads most loads = record { leads = leads; level = most; loads = loads; entry = tt }

  -- at a level a node's member on the way held this
  pub record Holds (root : Known V) (key l : ℕ) (held : Option (Known V)) : Type 0 where
    pub node : Known V
    pub leads : Leads o root key l node
    pub level : l ≤ 21
    pub loads : Loaded o Owner (member_at key l node) held

  pub holds_first : (root : Known V) (key m : ℕ) (at : Site V) (held : Option (Known V)) → m ≡ number_at key 0
      → at ≡ member_site root m → Loaded o Owner at held → Holds root key 0 held
  holds_first root key m at held number there loads = record {
    node = root;
    leads = is_one root;
    level = omega arith;
    loads = loaded_at key 0 m root at held held number there loads refl;
  }

  pub holds_on : (root : Known V) (key l l' m : ℕ) (next : Known V) (held : Option (Known V)) (at : Site V)
      (got : Option (Known V)) → Holds root key l held → held ≡ Some next → is_node_at (pointed next) ≡ true → l' ≡ l + 1
      → l' ≤ 21 → m ≡ number_at key l' → at ≡ member_site next m → Loaded o Owner at got → Holds root key l' got
  holds_on root key l l' m next held at got h some is below most number there loads = record {
    node = next;
    leads = leads_on root key l l' h.node next h.leads
        (subst (Loaded o Owner (member_at key l h.node)) some h.loads) is below;
    level = most;
    loads = loaded_at key l' m next at got got number there loads refl;
  }

  pub ends_here : (root : Known V) (key l : ℕ) (held got : Option (Known V)) (h : Holds root key l held) → held ≡ got
      → IsNoNode got → Ends o root key h.node l got
  ends_here root key l held got h is none = record {
    leads = h.leads;
    level = h.level;
    loads = subst (Loaded o Owner (member_at key l h.node)) is h.loads;
    entry = none;
  }
