mod DueLists
