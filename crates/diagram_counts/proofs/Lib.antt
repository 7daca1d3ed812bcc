mod CountsChanged
